-- Behind the entry of an update by address nothing is paused for the gate: translations are dropped, and vCPUs are waited for.
use Rattle.std.proofs.Common.{◌≡◌, ℕ, ◌≤◌, ◌%◌, ◌==◌, if◌then◌else◌, Bool, true, false, List, Option, Some, None, Result, Ok, Err, IfErr, refl, ap, arith}
use Rattle.xp_words.specs.declared.reply.Pause.TheVariants.{Due, Lost, Busy, Flush, Alive}
use Rattle.xp_words.specs.declared.reply.Stop.{Stop}
use Rattle.xp_words.specs.declared.reply.Stop.TheVariants.{Refused, Paused}
use Rattle.xp_board.specs.Told.{PortValue}
use Rattle.mmuext_ops.specs.declared.element.Element.TheVariants.{FlushLocal, Invalidate}
use Rattle.vcpu_turn.specs.Lists.{is_due_answer}
use Rattle.vcpu_turn.specs.Mappings as mapping
use Rattle.vcpu_turn.specs.Mappings.{DropsBehind, DropsOwn, MapsWord, WaitsForAll, done_behind, own_drop, waits_for_all}

undue_by : (P : Stop → Type 0) → (P (Paused Due) → ⊥) → (answer : Result (Unit {0}) Stop) → IfErr answer P → is_due_answer answer ≡ false
undue_by P off (Ok done) kinds = refl
undue_by P off (Err (Refused x)) kinds = refl
undue_by P off (Err (Paused Due)) kinds = absurd (off kinds)
undue_by P off (Err (Paused (Lost place expected found))) kinds = refl
undue_by P off (Err (Paused (Busy frame found))) kinds = refl
undue_by P off (Err (Paused (Flush vcpu stamp found))) kinds = refl
undue_by P off (Err (Paused (Alive vcpu found))) kinds = refl

drop_undue : (d va : ℕ) (all page : Bool) (v w : PortValue) (answer : Result (Unit {0}) Stop) → DropsOwn d (if all then Some FlushLocal else if page then Some (Invalidate va) else None) v w answer → is_due_answer answer ≡ false
drop_undue d va true page v w answer drops = undue_by _ (λ k. k) answer drops.kinds
drop_undue d va false true v w answer drops = undue_by _ (λ k. k) answer drops.kinds
drop_undue d va false false v w answer drops = ap is_due_answer drops.1

wait_undue : (d : ℕ) (waits : Bool) (awaited : Option ℕ) (v w : PortValue) (answer : Result (Unit {0}) Stop) → WaitsForAll d waits awaited v w answer → is_due_answer answer ≡ false
wait_undue d true awaited v w answer waits = undue_by _ (λ k. k) answer waits.kinds
wait_undue d false awaited v w answer waits = ap is_due_answer waits.1

pub drops_undue : (d flags va : ℕ) (v w : PortValue) (answer : Result (Unit {0}) Stop) → DropsBehind d flags va v w answer → is_due_answer answer ≡ false
drops_undue d flags va v _ _ (mapping.DropsBehind.undropped w e drops) = drop_undue d va (flags % 4 == 1) (flags % 4 == 2) v w (Err e) drops
drops_undue d flags va v _ _ (mapping.DropsBehind.dropped u w answer drops waits) = wait_undue d (waits_for_all flags) None u w answer waits

-- ---- how far it comes
pub behind_one : (answer : Result (Unit {0}) Stop) → done_behind answer ≤ 1
behind_one (Ok done) = omega arith
behind_one (Err (Paused p)) = omega arith
behind_one (Err (Refused x)) = omega arith

-- to its one element, and where it is paused for the gate no further than before
pub maps_most : {d foreign va word flags : ℕ} {awaited : Option ℕ} {v : PortValue} {from to : ℕ} {w : PortValue} {answers : List Bool} {answer : Result (Unit {0}) Stop} → MapsWord d foreign va word flags awaited v from to w answers answer →
    to ≤ 1
maps_most (mapping.MapsWord.unset w answers e first) = omega arith
maps_most (mapping.MapsWord.set u w answers answer first drops) = behind_one answer
maps_most (mapping.MapsWord.waited w answer waits) = behind_one answer

pub maps_due : (d foreign va word flags : ℕ) (awaited : Option ℕ) (v : PortValue) (from to : ℕ) (w : PortValue) (answers : List Bool) (answer : Result (Unit {0}) Stop) → MapsWord d foreign va word flags awaited v from to w answers answer →
    is_due_answer answer ≡ true → to ≤ from
maps_due d foreign va word flags awaited v _ _ _ _ _ (mapping.MapsWord.unset w answers e first) due = omega arith
maps_due d foreign va word flags awaited v _ _ _ _ _ (mapping.MapsWord.set u w answers answer first drops) due = absurd (let off = drops_undue d flags va u w answer drops in cc)
maps_due d foreign va word flags awaited v _ _ _ _ _ (mapping.MapsWord.waited w answer waits) due = behind_one answer
