-- LINES OF THE TEXT, byte by byte.
use mathlib.Core.Path.{◌≡◌, refl}
use mathlib.Core.Bool.{true, false}
use mathlib.Core.List.{[], ◌∷◌, map}
use Rattle.grammar.specs.Bytes.{bytes}
use Rattle.grammar.specs.Forms.{state_form}
use Rattle.asbestos.specs.Messages.{resulting_level}
use Rattle.asbestos.proofs.Codes.{proc}
use Rattle.asbestos_forms.specs.Forms.{names, label, born_form, marking_form, raising_form, entry_forms, asked_form, printed}

pub states : printed (map state_form names)
    ≡ bytes "(state S0)\n(state S1)\n(state S2)\n(state S3)\n(state S4)\n(state R0)\n(state R1)\n(state R2)\n(state R3)\n(state R4)\n(state M)\n"
unfolding names
states = refl

pub kinds : printed (born_form (proc 1 2 true) ∷ born_form (proc 4 0 false) ∷ []) ≡ bytes "(new (S1 R0 R1 R2 M))\n(new (S4 R0))\n"
unfolding born_form label names
kinds = refl

-- the level is raised, or stays
pub raises : printed (entry_forms 1 2) ≡ bytes "(next x (M S2) (S1) (S1 x) (R2 x) (S2 y) (M y))\n(next x (S2) (S1) (S1 x) (R2 x) (S2 y) (not (M y)))\n"
unfolding marking_form raising_form resulting_level label names
raises = refl

pub stays : printed (entry_forms 0 2) ≡ bytes "(next x (M S0) () (S0 x) (R2 x) (S2 y) (M y))\n"
unfolding marking_form resulting_level label names
stays = refl

pub asks : printed (asked_form 3 ∷ asked_form 4 ∷ []) ≡ bytes "(ask ((M x) (R3 x) (not (R4 x))))\n(ask ((M x) (R4 x)))\n"
unfolding asked_form label names
asks = refl
