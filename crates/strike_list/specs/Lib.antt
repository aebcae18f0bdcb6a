pub mod Lists
