-- What the tables of the explored states tell is told of the game beside the helpers.
use mathlib.Core.Path.{◌≡◌, sym, ap, ◌∙◌, subst}
use mathlib.Core.Logic.{◌⊎◌, inl, inr, ⊎_elim, ◌↔◌}
use mathlib.Core.Bool.{true, false}
use mathlib.Core.List.{List, ◌∷◌}
use mathlib.Core.Option.{Option, some}
use Prim.Native.Nat.{ℕ, suc, ◌≤◌, ◌<◌}
use native.Mathlib.Omega.{arith}
use lib.ListN.{length, take, get_or}
use lib.Seq.{get_or-take, length-take-le}
use Rattle.std.proofs.lemmas.Bool.{cases_Bool}
use Rattle.limits.specs.Limits as limit
use Rattle.semantics.specs.Models.{elem, Body, next, Program, line, vars, Supported, SafeLine}
use Rattle.semantics.specs.Facts.{Database, state}
use Rattle.semantics.specs.Steps.{Reachable}
use Rattle.semantics.specs.Tables.{Within, seat}
use Rattle.semantics.specs.Walkers.{Takes}
use Rattle.semantics.proofs.Tools.{seat-ok}
use Rattle.semantics.proofs.WalkersMoves.{takes-live}
use Rattle.semantics.proofs.WalkersSlots.{takes-within}
use Rattle.model.specs.declared.Model.{Model}
use Rattle.model.specs.Records.{program_of, question_of, number_in, stage_of, stage_at}
use Rattle.model.specs.WellFormed.{WellFormed}
use Rattle.model.proofs.Accepted.{stage-here}
use Rattle.model.proofs.Renaming.{elem-map, elem-of-map}
use Rattle.facts_bits.specs.Bits.{bit_at}
use Rattle.search_states.specs.States.{row}
use Rattle.search_states.proofs.Laws.{length-row, row-full}
use Rattle.search_states.proofs.Seats.{elem-get_or}
use Rattle.search_ways.specs.Moves.{Marks}
use Rattle.search.specs.declared.Explored.{Explored}
use Rattle.search.specs.Search.{Surveyed}
use Rattle.helpers.specs.Helpers.{Helpers}
use Rattle.helpers.proofs.Beside.{some-helpers, moves-takes, asked-own}
use Rattle.games.specs.Game.{Side, attacker, guardian, Arena, at, CanForce, HoldsOut, Fewest, Tells}
use Rattle.games.specs.Rounds.{Closed}
use Rattle.games.specs.Sides.{Moves, Asked, Hosts}
use Rattle.games.proofs.Rounds.{dated, rounds-tell}
use Rattle.games.proofs.Sides.{within-elem, elem-within, spoken, hosts-closed, hosts-one}
use Rattle.games.proofs.Same.{tells-same, hosts-same}
use Rattle.game_lists.specs.Lists.{OneVariable}
use Rattle.game_lists.proofs.Laws.{form_of}
use Rattle.game_moves.specs.Own.{Own}
use Rattle.game_moves.proofs.Laws.{seat-most, state-seat, seat-state}
use Rattle.game_stage.specs.Meeting.{Meeting}
use Rattle.game_stage.proofs.Laws.{own-variable, met-below}
use Rattle.game_rounds.specs.Board.{slots, of, Number, number_at, rank_of, board, Fits, Solves}
use Rattle.game_rounds.proofs.Slots.{slots-here, slots_set}
use Rattle.game_answer.specs.declared.Game.{Game}
use Rattle.game_answer.specs.Telling.{owned, told, Played, Telling}
use Rattle.game_answer.specs.Arranging.{Arranged}
use Rattle.game_answer.proofs.Numbers.{told-number}
use Rattle.game_answer.proofs.States.{arena, table_at, saturated-same}

module _ (m : Model) (wf : WellFormed m) (one : OneVariable m) (w : List ℕ) (r : Explored) (h : Surveyed m w r) where
  abbrev P : Program
  P = program_of m

  abbrev S : Database
  S = row r.states

  -- the stage, and its variable
  abbrev b : Body
  b = stage_of m.literals (stage_at m 0)

  abbrev x : ℕ
  x = number_in (stage_at m 0) 0

  safe-stage : SafeLine (next x 0 0 b)
  safe-stage = let q = subst (λ (c : Body). Supported (vars c) c) (stage-here m wf 0 (omega (arith, one.0))) (wf.safely 0) in (q x (own-variable m wf one), q)

  many : length S ≡ r.states.count
  many = length-row r.states h.proper

  few : length S ≤ limit.atomic
  few = omega (arith, many, h.proper.count)

  full : elem 0 S ≡ false
  full = ⊎_elim (λ e. absurd (row-full r.states h.proper e)) (λ e. e) (cases_Bool (elem 0 S))

  listed : (t : ℕ) → elem t S ≡ true → Reachable P t
  listed t e = (h.reachable t).1 (inr e)

  reached : (t : ℕ) → Reachable P t → Within S t
  reached t q = ⊎_elim (λ z. inl z.0) (λ z. inr z) ((h.reachable t).0 q)

  -- THE TABLES of the two sides' moves and of the states that meet the question
  module _ (A B MA MB M : List ℕ) (ours : Marks MA (Own P S A)) (theirs : Marks MB (Own P S B)) (met : Meeting P S b x M) where
    marks : (a : Side) → Marks (of MA MB a) (Own P S (owned A B a))
    marks attacker = ours
    marks guardian = theirs

    pub fits : Fits MA MB M r.states.count
    fits =
        record {
          few = h.proper.count;
          ours = λ e t l i. let o = (ours.bits e t l).0 i in (omega (arith, o.0, many), omega (arith, o.1, many));
          theirs = λ e t l i. let o = (theirs.bits e t l).0 i in (omega (arith, o.0, many), omega (arith, o.1, many));
          unmet = ⊎_elim
              (λ (z : bit_at M r.states.count ≡ true). absurd (omega (arith, many, met-below m wf one S r.states.count ((met.bits r.states.count (omega (arith, h.proper.count))).0 z))))
              (λ (z : bit_at M r.states.count ≡ false). z)
              (cases_Bool (bit_at M r.states.count));
        }

    abbrev G : Arena
    G = arena MA MB M S

    module _ (H : Database) (helpers : Helpers P H) where
      spoken-within : (s : ℕ) → elem s (0 ∷ H) ≡ true → Within S s
      spoken-within s u = ⊎_elim (λ z. inl z) (λ z. reached s ((helpers.each s).1 z)) (elem-within H s u)

      moving : (a : Side) (s t : ℕ) → Within S s → (elem t (G.moves a s) ≡ true) ↔ ((ℓ : ℕ) × (elem ℓ (owned A B a) ≡ true) × Moves P H ℓ s t)
      moving a s t v = (
        λ i.
            let y = elem-of-map (state S) t (slots (of MA MB a) (seat s S) (suc (length S))) i in
            let z = slots_set (of MA MB a) (seat s S) (suc (length S)) y.0 y.1 in
            let o = ((marks a).bits (seat s S) y.0 (omega (arith, z.0, few))).0 z.1 in
            let q = o.2 in
            (q.0, q.1, (moves-takes P wf.safe S listed reached H helpers s v q.0 t).1 (subst (λ (c : ℕ). Takes P S s c (line P q.0)) (sym y.2) (subst (λ (c : ℕ). Takes P S c (state S y.0) (line P q.0)) (state-seat S s v) q.2))),
        λ q.
            let k = (moves-takes P wf.safe S listed reached H helpers s v q.0 t).0 q.2 in
            let y = seat t S in
            let z = state-seat S t (takes-within P wf.safe S h.whole s t q.0 k) in
            let e = seat-ok s S (⊎_elim (λ c. absurd (takes-live P wf.safe S s t (line P q.0) (wf.safe q.0) k c)) (λ c. c) v) in
            let o = ((marks a).bits (seat s S) y (omega (arith, seat-most t S, few))).1 (e.0, seat-most t S, (q.0, q.1, subst (λ (c : ℕ). Takes P S c (state S y) (line P q.0)) (sym e.1) (subst (λ (c : ℕ). Takes P S s c (line P q.0)) (sym z) k))) in
            subst (λ (c : ℕ). elem c (G.moves a s) ≡ true) z (elem-map (state S) y (slots (of MA MB a) (seat s S) (suc (length S))) (slots-here (of MA MB a) (seat s S) (suc (length S)) y (omega (arith, seat-most t S)) o)),
      )

      asking : (s : ℕ) → Within S s → (G.met s ≡ true) ↔ Asked P H b x s
      asking s v =
          let k = met.bits (seat s S) (omega (arith, seat-most s S, few)) in
          let o = asked-own P wf.safe S listed reached H helpers b x safe-stage s v in (
            λ q. let z = k.0 q in o.1 (z.0, ap (state S) z.1 ∙ state-seat S s v, z.2),
            λ q. let z = o.0 q in k.1 (z.0, sym (seat-state S h.proper.distinct full (z.0 x) (omega (arith, z.2.0 x (own-variable m wf one)))) ∙ ap (λ (c : ℕ). seat c S) z.1, z.2),
          )

      hosts : Hosts P H (owned A B) b x G
      hosts = record { moving = λ a s t u. moving a s t (spoken-within s u); asking = λ s u. asking s (spoken-within s u) }

      closed : Closed G (0 ∷ S)
      closed = hosts-closed P wf.safe S listed reached H helpers h.whole (owned A B) b x safe-stage G hosts

      module _ (ranks : List Number) (fit : Fits MA MB M (length S)) (solves : Solves MA MB M (length S) ranks) where
        -- a number is that of one of the rounds
        dating : (e : ℕ) → e ≤ length S → (v : ℕ) → rank_of (number_at ranks e) ≡ some v → v ≤ solves.rounds
        dating e l v q = (dated (board MA MB M (length S)) solves.rounds (at attacker e) v (sym (solves.same e l) ∙ q)).0

        -- WHAT THE NUMBERS TELL, in each arena of the game
        tells : (F : Arena) → Hosts P H (owned A B) b x F → (s : ℕ) → Reachable P s → Tells F s (rank_of (number_at ranks (seat s S)))
        tells F f s q =
            let v = reached s q in
            let u = within-elem S s v in
            tells-same G F (0 ∷ S) (hosts-same P H (owned A B) b x G F hosts f (0 ∷ S) (spoken P wf.safe S listed reached H helpers)) closed s u (rank_of (number_at ranks (seat s S)))
            (subst (λ (o : Option ℕ). Tells G s o) (table_at MA MB M S h.proper.distinct full fit solves.rounds attacker s v ∙ sym (solves.same (seat s S) (seat-most s S)))
            (rounds-tell G (0 ∷ S) closed solves.rounds (saturated-same MA MB M S h.proper.distinct full fit solves.rounds solves.saturated) s u))

        played : (moves : List ℕ) → Arranged S r.listing.states r.listing.count ranks moves → Played P (owned A B) b x r.listing.states moves r.listing.count H
        played moves a =
            record {
              arena = G;
              hosts = hosts;
              tells = λ F f i l.
                  let s = get_or r.listing.states i 0 in
                  subst (λ (o : Option ℕ). Tells F s o) (sym (ap told (a.each i l) ∙ told-number (number_at ranks (seat s S)) solves.rounds solves.few (dating (seat s S) (seat-most s S)))) (tells F f s (shown i l));
            }
          where
            -- a state of the listing is reachable
            shown : (i : ℕ) → i < r.listing.count → Reachable P (get_or r.listing.states i 0)
            shown i l = (h.reachable (get_or r.listing.states i 0)).1 ((h.listing.same (get_or r.listing.states i 0)).0
                (subst (λ (c : ℕ). elem c (take r.listing.count r.listing.states) ≡ true) (get_or-take r.listing.count r.listing.states i 0 l)
                (elem-get_or (take r.listing.count r.listing.states) i (rw (length-take-le r.listing.count r.listing.states (omega (arith, h.listing.long, h.listing.count))) l))))

    -- THE GAME over the explored states
    pub telling : (ranks : List Number) → Fits MA MB M r.states.count → Solves MA MB M r.states.count ranks → (g : Game) → Arranged S r.listing.states r.listing.count ranks g.moves
        → g.states ≡ r.listing.states → g.count ≡ r.listing.count → Telling P (question_of m) A B g
    telling ranks fit solves g a e c =
        let H = some-helpers P S r.states.empty h.proper.distinct full h.reachable in
        record {
          listed = rw (e, c)
              (record {
                count = h.listing.count;
                rising = h.listing.rising;
                reachable = λ t. ((λ q. (h.listing.same t).1 ((h.reachable t).0 q)), λ q. (h.reachable t).1 ((h.listing.same t).0 q));
                rest = h.listing.rest;
              });
          blank = rw (c) a.rest;
          stage = b;
          variable = x;
          form = form_of m wf one;
          played = record {
            row = H.0;
            helpers = H.1;
            so = λ D d. rw (e, c) (played D d ranks (subst (λ (n : ℕ). Fits MA MB M n) (sym many) fit) (subst (λ (n : ℕ). Solves MA MB M n ranks) (sym many) solves) g.moves a);
          };
        }

  -- EXACTLY ONE of the two can force the outcome from each reachable state, whatever lines they have
  pub one-winner : (lines : Side → List ℕ) (H : Database) → Helpers P H → (F : Arena) → Hosts P H lines b x F → (s : ℕ) → Reachable P s → (((n : ℕ) × Fewest F n s) ⊎ HoldsOut F s) × ((n : ℕ) → CanForce F n s → HoldsOut F s → ⊥)
  one-winner lines H helpers F f s q = hosts-one P wf.safe S listed reached H helpers h.whole lines b x safe-stage F f s q
