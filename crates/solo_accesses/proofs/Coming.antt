-- What accesses come to, as elements of operations do: they are not paused, and nothing is left to be settled.
use Rattle.std.proofs.Common.{ℕ, Bool, Option, Result, Ok, Err, refl}
use Rattle.xp_words.specs.declared.reply.Refusal.{Refusal}
use Rattle.xp_words.specs.declared.reply.Stop.{Stop}
use Rattle.xp_words.specs.declared.reply.Stop.TheVariants.{Refused, Paused}
use Rattle.xp_words.specs.Machine.{Machine}
use Rattle.xp_board.specs.Told.{PortValue}
use Rattle.table_law.specs.Plain.{Plain}
use Rattle.script_law.specs.Values.{Numbers, Outcome, Solo}
use Rattle.script_law.specs.Walks.{from_base, path}
use Rattle.solo_ports.specs.Coming.{Comes, IsRefusedSo}
use Rattle.solo_ports.specs.Standing as standing
use Rattle.solo_ports.specs.Standing.{IsUnkept}
use Rattle.solo_accesses.specs.Accesses.{AccessComes, IsRefusedExactly, with_zero}
use Rattle.solo_accesses.proofs.Keeping.{unkept_kinds}
use Rattle.solo_accesses.proofs.Ways.{base_kinds, path_kinds, way_left}

-- done or not, whatever the value is
abbrev pub done_of : {A : Type 0} → Result A Stop → Result (Unit {0}) Stop
done_of (Ok a) = Ok tt
done_of (Err e) = Err e

module _ (Kept : PortValue → Solo → Type 0) (w : PortValue) (x : Solo) (o : Outcome) where
  refused_so : (r : Refusal) → IsRefusedExactly w r o → IsRefusedSo w r o
  refused_so r a = record { why = Numbers r; is = a.is; same = refl; none = a.none; owes = standing.nothing a.clean }

  pub access_comes : (answer : Result ℕ Stop) → AccessComes w o answer → Comes Kept w x o (done_of answer)
  access_comes (Ok value) a = record { fine = a.fine; none = a.none; owes = standing.nothing a.clean }
  access_comes (Err (Refused r)) a = refused_so r a
  access_comes (Err (Paused p)) a = absurd a

  pub write_comes : (answer : Result (Unit {0}) Stop) → AccessComes w o (with_zero answer) → Comes Kept w x o answer
  write_comes (Ok done) a = record { fine = a.fine; none = a.none; owes = standing.nothing a.clean }
  write_comes (Err (Refused r)) a = refused_so r a
  write_comes (Err (Paused p)) a = absurd a

-- ---- no frame is kept behind a walk that was not before it
pub unkept_path : (n : Machine) (va : ℕ) (write : Bool) (l table : ℕ) (barrier : Option ℕ) (p : Plain) → IsUnkept n p → IsUnkept n (way_left (path n va write l table barrier p))
unkept_path n va write l table barrier p unkept = unkept_kinds n p (way_left (path n va write l table barrier p)) (path_kinds n va write l table barrier p) unkept

pub unkept_way : (n : Machine) (va : ℕ) (write : Bool) (base : ℕ) (p : Plain) → IsUnkept n p → IsUnkept n (way_left (from_base n va write base p))
unkept_way n va write base p unkept = unkept_kinds n p (way_left (from_base n va write base p)) (base_kinds n va write base p) unkept
