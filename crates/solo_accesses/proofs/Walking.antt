-- A walk from a table down, done again on words, and the plain one.
use Rattle.std.proofs.Common.{◌≡◌, ◌≢◌, ℕ, zero, suc, ◌-◌, ◌<◌, ◌==◌, if◌then◌else◌, Bool, true, false, List, Option, Result, Ok, Err, refl, sym, ap, ◌∙◌, subst, arith}
use Rattle.std.proofs.lemmas.Bool.Decides.{nat_tests}
use Rattle.xp_words.specs.Entries.{frame_of, is_bit}
use Rattle.xp_words.specs.Machine.{Machine}
use Rattle.xp_words.specs.declared.reply.Pause.TheVariants.{Lost}
use Rattle.xp_words.specs.declared.reply.Refusal.TheVariants.{NotMapped}
use Rattle.xp_words.specs.declared.reply.Stop.{Stop}
use Rattle.xp_words.specs.declared.reply.Stop.TheVariants.{Refused, Paused}
use Rattle.step_maker.specs.Licences.{is_unmapped}
use Rattle.step_maker.specs.Plain.{Words}
use Rattle.step_maker.specs.Visits.{Visit}
use Rattle.replay_laws.specs.Replays.{Replays}
use Rattle.replay_laws.proofs.Replaying.{replays_apart}
use Rattle.tlb_walks.specs.Addresses.{index_of}
use Rattle.tlb_walks.specs.Walks as by
use Rattle.tlb_walks.specs.Walks.{EndsAt, EntryBy, PathBy, barrier_with, with_needed}
use Rattle.tlb_walks.specs.declared.walks.Walked.{Walked}
use Rattle.tlb_walks.proofs.Descending.{mapped_inside}
use Rattle.table_law.specs.Exchange.{with_cell}
use Rattle.table_law.specs.Plain.{Plain}
use Rattle.script_law.specs.Walks.{Way, Leads, Stops, at_entry, path, touched}
use Rattle.solo_accesses.proofs.Cells.{CellsOf, OnlyCells, only_then, set_cells, sets_only}
use Rattle.solo_accesses.proofs.Entries.{EnteredAs, entered, lacks}
use Rattle.solo_accesses.proofs.Ways.{index_few}

-- the answer is the way of a plain walk, and u the words behind it
abbrev pub OnWay : Machine → Words → Result Walked Stop → Way → Type 0
OnWay n u (Ok r) (Leads f barrier p) = (frame_of r.entry ≡ f) × (r.barrier ≡ barrier) × (f < n.frames) × CellsOf n u p
OnWay n u (Err (Refused x)) (Stops y p) = (x ≡ y) × CellsOf n u p
OnWay n u _ _ = ⊥

-- ---- it ends with this entry
module _ (n : Machine) (va : ℕ) (write : Bool) (u : Words) (l table w new found : ℕ) (b : Option ℕ) (q : Plain) (cells : CellsOf n u q) (met : lacks w new ≡ true → found ≡ w) where
  last_way : (r : Walked) → is_unmapped n w ≡ false → r.entry ≡ w → r.barrier ≡ b → OnWay n u (Ok r) (path n va write zero (frame_of w) b q)
  unfolding path
  last_way r mapped entry barrier = (ap frame_of entry, barrier, mapped_inside n w mapped, cells)

  is_exchanged : is_bit 0 w ≡ true → new ≢ w → lacks w new ≡ true
  is_exchanged bit off = let other : (new == w) ≡ false = grind (arith, nat_tests) in rw (bit, other) refl

  ends_way : (answer : Result Walked Stop) → EndsAt n table (index_of va (suc l)) (suc l) b w new found answer → OnWay n u answer (at_entry n w (path n va write l) (suc l) b q)
  ends_way (Ok r) (last, mapped, same, entry, barrier) =
      let none : l ≡ 0 = omega arith in
      subst (λ c. OnWay n u (Ok r) (if c then Stops (NotMapped (suc l) w) q else path n va write l (frame_of w) b q)) (sym mapped)
      (subst (λ k. OnWay n u (Ok r) (path n va write k (frame_of w) b q)) (sym none) (last_way r mapped entry barrier))
  ends_way (Err (Refused (NotMapped k e))) (level, entry, off, same) =
      subst (λ c. OnWay n u (Err (Refused (NotMapped k e))) (if c then Stops (NotMapped (suc l) w) q else path n va write l (frame_of w) b q)) (sym off) (cc, cells)
  ends_way (Err (Paused (Lost place e x))) (at, entry, is, bit, off, other) = absurd (other (met (is_exchanged bit off)))
  ends_way (Err _) a = absurd a

-- ---- one entry, and what is behind it
module _ (n : Machine) (va : ℕ) (write : Bool) (answer : Result Walked Stop) (l table w found : ℕ) (barrier : Option ℕ) (m k : Words) (p : Plain) (cells : CellsOf n m p) (inside : table < n.frames)
    (at : EnteredAs m table (index_of va (suc l)) w (with_needed write (suc l) (barrier_with barrier w) w) found k) where
  pub cells_behind : CellsOf n k (with_cell table (index_of va (suc l)) (touched write (suc l) (barrier_with barrier w) w) p)
  cells_behind = set_cells n m k p table (index_of va (suc l)) (touched write (suc l) (barrier_with barrier w) w) cells at.sets

  entry_is : p.cells table (index_of va (suc l)) ≡ w
  entry_is = cells table (index_of va (suc l)) inside (index_few va (suc l)) ∙ at.was

  pub on_entry : (u : Words) → OnWay n u answer (at_entry n w (path n va write l) (suc l) (barrier_with barrier w) (with_cell table (index_of va (suc l)) (touched write (suc l) (barrier_with barrier w) w) p)) →
      OnWay n u answer (path n va write (suc l) table barrier p)
  unfolding path
  on_entry u a =
      subst (λ x. OnWay n u answer (at_entry n x (path n va write l) (suc l) (barrier_with barrier x) (with_cell table (index_of va (suc l)) (touched write (suc l) (barrier_with barrier x) x) p))) (sym entry_is) a

  pub ended : EndsAt n table (index_of va (suc l)) (suc l) (barrier_with barrier w) w (with_needed write (suc l) (barrier_with barrier w) w) found answer → OnWay n k answer (path n va write (suc l) table barrier p)
  ended end =
      on_entry k
      (ends_way n va write k l table w (with_needed write (suc l) (barrier_with barrier w) w) found (barrier_with barrier w)
      (with_cell table (index_of va (suc l)) (touched write (suc l) (barrier_with barrier w) w) p) cells_behind at.met answer end)

  pub went_on : (u : Words) → is_unmapped n w ≡ false →
      OnWay n u answer (path n va write l (frame_of w) (barrier_with barrier w) (with_cell table (index_of va (suc l)) (touched write (suc l) (barrier_with barrier w) w) p)) → OnWay n u answer (path n va write (suc l) table barrier p)
  went_on u mapped a =
      let q = with_cell table (index_of va (suc l)) (touched write (suc l) (barrier_with barrier w) w) p in
      on_entry u (subst (λ c. OnWay n u answer (if c then Stops (NotMapped (suc l) w) q else path n va write l (frame_of w) (barrier_with barrier w) q)) (sym mapped) a)

-- ---- all of it
-- the answer is the plain walk's, and cells alone were changed
abbrev pub WalkedAs : Machine → Words → Words → Result Walked Stop → Way → Type 0
WalkedAs n m u answer way = OnWay n u answer way × OnlyCells m u

module _ (n : Machine) (va : ℕ) (write : Bool) (answer : Result Walked Stop) where
  pub walked_down : (level table : ℕ) (barrier : Option ℕ) (vs : List Visit) → PathBy n va write answer level table barrier vs → (l : ℕ) → level ≡ suc l → (m u : Words) (p : Plain) → Replays m vs u → CellsOf n m p → table < n.frames →
      WalkedAs n m u answer (path n va write (suc l) table barrier p)
  walked_down level table barrier vs (by.ends _ _ _ _ w found entry end) l is m u p replays cells inside =
      let at = entered m u table (index_of va (suc l)) w (with_needed write (suc l) (barrier_with barrier w) w) found vs (subst (λ k. EntryBy table (index_of va k) w (with_needed write k (barrier_with barrier w) w) found vs) is entry) replays in (
        ended n va write answer l table w found barrier m u p cells inside at (subst (λ k. EndsAt n table (index_of va k) k (barrier_with barrier w) w (with_needed write k (barrier_with barrier w) w) found answer) is end),
        sets_only m u table (index_of va (suc l)) _ at.sets,
      )
  walked_down level table barrier vs (by.goes _ _ _ _ first rest w more mapped entry path list) zero is m u p replays cells inside = absurd (omega arith)
  walked_down level table barrier vs (by.goes _ _ _ _ first rest w more mapped entry path list) (suc l) is m u p replays cells inside =
      let parts = replays_apart m u first rest (subst (λ xs. Replays m xs u) list replays) in
      let at = entered m parts.0 table (index_of va (suc (suc l))) w (with_needed write (suc (suc l)) (barrier_with barrier w) w) w first
      (subst (λ k. EntryBy table (index_of va k) w (with_needed write k (barrier_with barrier w) w) w first) is entry) parts.1 in
      let below : level - 1 ≡ suc l = omega arith in
      let next = walked_down (level - 1) (frame_of w) (barrier_with barrier w) rest path l below parts.0 u _ parts.2 (cells_behind n va write answer (suc l) table w w barrier m parts.0 p cells inside at) (mapped_inside n w mapped) in
      (went_on n va write answer (suc l) table w w barrier m parts.0 p cells inside at u mapped next.0, only_then m parts.0 u (sets_only m parts.0 table (index_of va (suc (suc l))) _ at.sets) next.1)
