-- The turns of a machine that has one vCPU are turns of that one.
use Rattle.std.proofs.Common.{◌≡◌, ℕ, zero, suc, Bool, true, false, List, [], ◌∷◌, length, Some, None, refl, sym, ap, ◌∙◌, subst, arith}
use Rattle.std.specs.Prelude.{slice_get, slice_set}
use Rattle.std.proofs.lemmas.Option.{slice_get_past}
use Rattle.xp_words.specs.Machine.{Machine}
use Rattle.xp_words.specs.declared.ops.Op.{Op}
use Rattle.xp_board.specs.Readings.{domain_of}
use Rattle.vcpu_runners.specs.Cpus.{first_cpus}
use Rattle.vcpu_runners.specs.Turns.{Processing, fresh}
use Rattle.script_laws.specs.Turns.{Turned}
use Rattle.script_laws.specs.Turns as turns
use Rattle.xp_machine.specs.Turns.{ByCpu, InOrder, IsStagedStop, IsStagedTurn, MakesStagedStop, MakesStagedTurn, Stage, Stops, Turns, UnlessRetired, port_on}
use Rattle.xp_machine.specs.Turns as staged

-- ---- lists of one
none_behind : {A : Type 0} (xs : List A) (j : ℕ) → length xs ≡ 1 → slice_get xs (suc j) ≡ None
none_behind xs j one = slice_get_past xs (suc j) (omega arith)

set_first : {A : Type 0} (xs : List A) (x : A) → length xs ≡ 1 → (slice_get (slice_set xs 0 x) 0 ≡ Some x) × (length (slice_set xs 0 x) ≡ 1)
set_first [] x one = absurd cc
set_first (y ∷ xs) x one = (refl, one)

pub first_are : (n : Machine) (scripts : List (List Op)) (script : List Op) → slice_get scripts 0 ≡ Some script → slice_get (first_cpus n scripts) 0 ≡ Some (fresh n.frames 0 (domain_of n 0) script)
unfolding first_cpus
first_are n [] script is = absurd cc
first_are n (x ∷ xs) script is = let same : x ≡ script = cc in ap (λ y. Some (fresh n.frames 0 (domain_of n 0) y)) same

-- ---- turns
module _ (n : Machine) where
  -- the vCPU stands so on that stage
  pub record IsOnly (s : Stage) (c : Processing) : Type 0 where
    pub one : length s.cpus ≡ 1
    pub is : slice_get s.cpus 0 ≡ Some c

  pub record Went (first : Stage) (c : Processing) (s : Stage) : Type 0 where
    pub now : Processing
    pub only : IsOnly s now
    pub turned : Turned c (port_on n 0 first.board) now (port_on n 0 s.board)

  turn_on : (first : Stage) (c : Processing) (m s : Stage) (w : Went first c m) (retired : Bool) → w.now.retired ≡ retired → UnlessRetired (MakesStagedTurn n 0) w.now retired m s → Went first c s
  turn_on first c m s w true is same = subst (Went first c) (sym same) w
  turn_on first c m s w false is t =
      let k = set_first m.cpus t.after w.only.one in
      record {
        now = t.after;
        only = record { one = ap length t.cpus ∙ k.1; is = ap (λ xs. slice_get xs 0) t.cpus ∙ k.0 };
        turned = turns.Turned.more w.now t.after (port_on n 0 m.board) (port_on n 0 s.board) t.end t.answers w.turned is t.turn;
      }

  turn_by : (first : Stage) (c : Processing) (v : ℕ) (m s : Stage) → Went first c m → IsStagedTurn n v m s → Went first c s
  turn_by first c zero m s w step = let own = subst (λ o. ByCpu (MakesStagedTurn n 0) o m s) w.only.is step in turn_on first c m s w w.now.retired refl own
  turn_by first c (suc j) m s w step = absurd (subst (λ o. ByCpu (MakesStagedTurn n (suc j)) o m s) (none_behind m.cpus j w.only.one) step)

  pub went : (first : Stage) (c : Processing) (vs : List ℕ) (a s : Stage) → Turns n vs a s → a ≡ first → IsOnly first c → Went first c s
  went first c _ _ _ (staged.InOrder.none s) at only = subst (Went first c) (sym at) (record { now = c; only = only; turned = turns.Turned.none })
  went first c _ a _ (staged.InOrder.more vs v _ m s before step) at only = turn_by first c v m s (went first c vs a m before at only) step

  -- ---- a retired vCPU does not stop once more
  stop_by : (c : Processing) (v : ℕ) (m s : Stage) → IsOnly m c → c.retired ≡ true → IsStagedStop n v m s → s ≡ m
  stop_by c zero m s only retired step = subst (λ b. UnlessRetired (MakesStagedStop n 0) c b m s) retired (subst (λ o. ByCpu (MakesStagedStop n 0) o m s) only.is step)
  stop_by c (suc j) m s only retired step = absurd (subst (λ o. ByCpu (MakesStagedStop n (suc j)) o m s) (none_behind m.cpus j only.one) step)

  pub stopped : (c : Processing) (vs : List ℕ) (a s : Stage) → Stops n vs a s → IsOnly a c → c.retired ≡ true → s ≡ a
  stopped c _ _ _ (staged.InOrder.none s) only retired = refl
  stopped c _ a _ (staged.InOrder.more vs v _ m s before step) only retired =
      let same = stopped c vs a m before only retired in
      stop_by c v m s (subst (λ k. IsOnly k c) (sym same) only) retired step ∙ same
