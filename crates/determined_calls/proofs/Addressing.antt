-- The entry that maps an address, found and set: determined by the words found and by the gate's answers.
use Rattle.std.proofs.Common.{◌≡◌, ◌≢◌, ◌<◌, ◌≤◌, ℕ, ◌-◌, zero, suc, Bool, true, false, List, [], Option, Some, None, Result, Ok, Err, refl, sym, ap, ◌∙◌, subst}
use native.Mathlib.Omega.{arith}
use Rattle.xp_words.specs.Entries.{frame_of}
use Rattle.xp_words.specs.declared.kind.PageType.TheVariants.{L1}
use Rattle.xp_words.specs.declared.reply.Refusal.{Refusal}
use Rattle.xp_words.specs.declared.reply.Refusal.TheVariants as refusals
use Rattle.xp_words.specs.declared.reply.Stop.{Stop}
use Rattle.xp_words.specs.declared.reply.Stop.TheVariants.{Refused}
use Rattle.xp_board.specs.Told.{PortValue}
use Rattle.step_maker.specs.Moves.{Came}
use Rattle.step_maker.proofs.Coming.{came_self, came_trans, moves_came}
use Rattle.partial_state.specs.Levels.{level_type}
use Rattle.xp_preempt.specs.Gates.{GivesAnswers}
use Rattle.foreign_map.specs.declared.owners.Owners.{Owners}
use Rattle.entry_locks.specs.declared.locking.Locked.{Locked}
use Rattle.entry_locks.specs.declared.locking.Locked.TheVariants.{Other, Table}
use Rattle.tlb_walks.specs.Addresses.{index_of, walk_refusal}
use Rattle.table_entries.specs.Acquiring.{GaveRef, GotRef}
use Rattle.table_entries.proofs.Shared.{ref_came, gave_came}
use Rattle.entry_exchange.specs.Course.{Exchanged, LeftLock, SawEntry}
use Rattle.exchange_laws.proofs.Unlocking.{lock_came}
use Rattle.mmu_update.specs.Addresses as ways
use Rattle.mmu_update.specs.Addresses.{Descends, EnteredAt, Leads, UpdatedAt}
use Rattle.step_maker.specs.Licences.{is_unmapped}
use Rattle.mmu_update.specs.Course.{TriedLock, entry_update}
use Rattle.determined_laws.specs.Courses.{Alike}
use Rattle.determined_laws.specs.Forks.{AgreeLock}
use Rattle.determined_laws.proofs.Calls.{gets_alike, puts_alike}
use Rattle.determined_laws.proofs.Courses.{alike_apart, alike_map, alike_move, alike_next, alike_same}
use Rattle.determined_calls.proofs.Exchanging.{exchanged_came, left_lock_alike}
use Rattle.determined_calls.proofs.Levels.{lock_at}
use Rattle.determined_calls.proofs.Updating.{tried_alike, tried_came, under_lock_alike}

abbrev Led : Type 0
Led = Result ℕ Stop

-- ---- down from a table
pub descends_came : (va : ℕ) (w : PortValue) (a : Led) (v : PortValue) (level table : ℕ) → Descends va w a v level table → Came v w
descends_came va w a _ _ _ (ways.Descends.unmapped v level table entry saw off end) = moves_came v w _ _ _ _ _ saw
descends_came va w a _ _ _ (ways.Descends.reached v level table entry two saw on end) = moves_came v w _ _ _ _ _ saw
descends_came va w a _ _ _ (ways.Descends.goes v u level table entry deep saw on rest) = came_trans v u w (moves_came v u _ _ _ _ _ saw) (descends_came va w a u (level - 1) (frame_of entry) rest)

module _ (va : ℕ) (w x : PortValue) (a b : Led) where
  flags_apart : {A : Type 0} (c : Bool) → c ≡ true → c ≡ false → A
  flags_apart c on off = absurd (let e = sym on ∙ off in cc)

  some_unmapped : (n m : PortValue) (entry other : ℕ) → n ≡ m → entry ≡ other → is_unmapped n.post.machine entry ≡ is_unmapped m.post.machine other
  some_unmapped n m entry other e f = ap (λ (k : PortValue). is_unmapped k.post.machine entry) e ∙ ap (λ z. is_unmapped m.post.machine z) f

  descends_alike : (v : PortValue) (level table : ℕ) → Descends va w a v level table → Descends va x b v level table → Alike v w x (a ≡ b)
  descends_alike _ _ _ (ways.Descends.unmapped v level table entry saw off end) (ways.Descends.unmapped _ _ _ other see out ends) =
      alike_map (alike_move saw see) (λ e. end ∙ (ap (λ z. Err (Refused (refusals.NotMapped level z))) e ∙ sym ends))
  descends_alike _ _ _ (ways.Descends.unmapped v level table entry saw off end) (ways.Descends.reached _ _ _ other two see on ends) =
      alike_map (alike_move saw see) (λ e. flags_apart (is_unmapped v.post.machine entry) off (some_unmapped v v entry other refl e ∙ on))
  descends_alike _ _ _ (ways.Descends.unmapped v level table entry saw off end) (ways.Descends.goes _ u _ _ other deep see on rest) =
      alike_apart (came_self w) (descends_came va x b u (level - 1) (frame_of other) rest) (alike_move saw see) (λ e. flags_apart (is_unmapped v.post.machine entry) off (some_unmapped v v entry other refl e ∙ on))
  descends_alike _ _ _ (ways.Descends.reached v level table entry two saw on end) (ways.Descends.unmapped _ _ _ other see out ends) =
      alike_map (alike_move saw see) (λ e. flags_apart (is_unmapped v.post.machine other) out (some_unmapped v v other entry refl (sym e) ∙ on))
  descends_alike _ _ _ (ways.Descends.reached v level table entry two saw on end) (ways.Descends.reached _ _ _ other also see still ends) =
      alike_map (alike_move saw see) (λ e. end ∙ (ap (λ z. Ok (frame_of z)) e ∙ sym ends))
  descends_alike _ _ _ (ways.Descends.reached v level table entry two saw on end) (ways.Descends.goes _ u _ _ other deep see still rest) = absurd (omega (arith, two, deep))
  descends_alike _ _ _ (ways.Descends.goes v u level table entry deep saw on rest) (ways.Descends.unmapped _ _ _ other see out ends) =
      alike_apart (descends_came va w a u (level - 1) (frame_of entry) rest) (came_self x) (alike_move saw see) (λ e. flags_apart (is_unmapped v.post.machine other) out (some_unmapped v v other entry refl (sym e) ∙ on))
  descends_alike _ _ _ (ways.Descends.goes v u level table entry deep saw on rest) (ways.Descends.reached _ _ _ other two see still ends) = absurd (omega (arith, two, deep))
  descends_alike _ _ _ (ways.Descends.goes v u level table entry deep saw on rest) (ways.Descends.goes _ y _ _ other far see still more) =
      alike_next (λ z. Descends va x b z (level - 1) (frame_of other)) (moves_came v u _ _ _ _ _ saw) (descends_came va w a u (level - 1) (frame_of entry) rest) (descends_came va x b y (level - 1) (frame_of other) more) (alike_move saw see) more
      (λ e behind. descends_alike u (level - 1) (frame_of entry) rest (subst (λ z. Descends va x b u (level - 1) (frame_of z)) (sym e) behind))

-- ---- from the base
pub leads_came : {v w : PortValue} {va : ℕ} {a : Led} → Leads v va w a → Came v w
leads_came {v} (ways.Leads.barred r is same end) = subst (λ z. Came v z) (sym same) (came_self v)
leads_came {v} {w} (ways.Leads.unbased is saw end) = moves_came v w _ _ _ _ _ saw
leads_came {v} {w} {va} {a} (ways.Leads.based u base is some saw rest) = came_trans v u w (moves_came v u _ _ _ _ _ saw) (descends_came va w a u 4 (base - 1) rest)

same_refusal : (r s : Refusal) (o : Option Refusal) → o ≡ Some r → o ≡ Some s → r ≡ s
same_refusal r s o e f = let t : ◌≡◌ {A = Option Refusal} (Some r) (Some s) = sym e ∙ f in cc

none_apart : {A : Type 0} (r : Refusal) (o : Option Refusal) → o ≡ Some r → o ≡ None → A
none_apart r o e f = absurd (let t = sym e ∙ f in cc)

pub leads_alike : {v w x : PortValue} {va : ℕ} {a b : Led} → Leads v va w a → Leads v va x b → Alike v w x (a ≡ b)
leads_alike {va = va} (ways.Leads.barred r is same end) (ways.Leads.barred s also still ends) = alike_same (same ∙ sym still) (end ∙ (ap (λ z. Err (Refused z)) (same_refusal r s (walk_refusal va) is also) ∙ sym ends))
leads_alike {va = va} (ways.Leads.barred r is same end) (ways.Leads.unbased off saw ends) = none_apart r (walk_refusal va) is off
leads_alike {va = va} (ways.Leads.barred r is same end) (ways.Leads.based u base off some saw rest) = none_apart r (walk_refusal va) is off
leads_alike {va = va} (ways.Leads.unbased off saw ends) (ways.Leads.barred r is same end) = none_apart r (walk_refusal va) is off
leads_alike (ways.Leads.unbased is saw end) (ways.Leads.unbased also see ends) = alike_map (alike_move saw see) (λ e. end ∙ sym ends)
leads_alike {w = w} {x} {va} {b = b} (ways.Leads.unbased is saw end) (ways.Leads.based u base also some see rest) = alike_apart (came_self w) (descends_came va x b u 4 (base - 1) rest) (alike_move saw see) (λ e. some (sym e))
leads_alike {va = va} (ways.Leads.based u base off some saw rest) (ways.Leads.barred r is same end) = none_apart r (walk_refusal va) is off
leads_alike {w = w} {x} {va} {a} (ways.Leads.based u base is some saw rest) (ways.Leads.unbased also see end) = alike_apart (descends_came va w a u 4 (base - 1) rest) (came_self x) (alike_move saw see) (λ e. some e)
leads_alike {v} {w} {x} {va} {a} {b} (ways.Leads.based u base is some saw rest) (ways.Leads.based y other also more see next) =
    alike_next (λ z. Descends va x b z 4 (other - 1)) (moves_came v u _ _ _ _ _ saw) (descends_came va w a u 4 (base - 1) rest) (descends_came va x b y 4 (other - 1) next) (alike_move saw see) next
    (λ e behind. descends_alike va w x a b u 4 (base - 1) rest (subst (λ z. Descends va x b u 4 (z - 1)) (sym e) behind))

-- ---- the table of level 1, entered
module _ (o : Owners) (table i word : ℕ) where
  data Under (y w : PortValue) (answers : List Bool) (a : Result (Unit {0}) Stop) : Result Locked Stop → Type 0 where
    unlocked : (stop : Stop) → GaveRef y w table → answers ≡ [] → a ≡ Err stop → Under y w answers a (Err stop)
    other : (found : ℕ) → GaveRef y w table → answers ≡ [] → a ≡ Err (Refused (refusals.OtherType table L1 found)) → Under y w answers a (Ok (Other found))
    level : (high found : ℕ) → high ≢ 1 → LeftLock y table high w → answers ≡ [] → a ≡ Err (Refused (refusals.OtherType table L1 found)) → Under y w answers a (Ok (Table high found))
    exchanged : (low found : ℕ) → low ≡ 1 → Exchanged y (entry_update table 1 i word false) o w answers a → Under y w answers a (Ok (Table low found))

  data Enters (v w : PortValue) (answers : List Bool) (a : Result (Unit {0}) Stop) : Type 0 where
    unreferred : (stop : Stop) → GotRef v w table o.tables (Err stop) → answers ≡ [] → a ≡ Err stop → Enters v w answers a
    referred : (u y : PortValue) (r : Result Locked Stop) → GotRef v u table o.tables (Ok table) → TriedLock u y table o.tables r → Under y w answers a r → Enters v w answers a

  enters : (v w : PortValue) (answers : List Bool) (a : Result (Unit {0}) Stop) → EnteredAt v o table i word w answers a → Enters v w answers a
  enters v _ _ _ (ways.EnteredAt.unreferred w stop got) = unreferred stop got refl refl
  enters v _ _ _ (ways.EnteredAt.unlocked u y w stop got tried gave) = referred u y _ got tried (unlocked stop gave refl refl)
  enters v _ _ _ (ways.EnteredAt.other u y w found got tried gave) = referred u y _ got tried (other found gave refl refl)
  enters v _ _ _ (ways.EnteredAt.level u y w high found got tried off left) = referred u y _ got tried (level high found off left refl refl)
  enters v _ _ _ (ways.EnteredAt.exchanged u y w found answers answer got tried run) = referred u y _ got tried (exchanged 1 found refl run)

  under_came : {y w : PortValue} {answers : List Bool} {a : Result (Unit {0}) Stop} {r : Result Locked Stop} → Under y w answers a r → Came y w
  under_came {y} {w} (unlocked stop gave none end) = gave_came y w table gave
  under_came {y} {w} (other found gave none end) = gave_came y w table gave
  under_came {y} {w} (level high found off left none end) = lock_came y w table high left
  under_came (exchanged low found is run) = exchanged_came run

  enters_came : {v w : PortValue} {answers : List Bool} {a : Result (Unit {0}) Stop} → Enters v w answers a → Came v w
  enters_came {v} {w} (unreferred stop got none end) = ref_came v w table o.tables _ got
  enters_came {v} {w} (referred u y r got tried rest) = came_trans v u w (ref_came v u table o.tables _ got) (came_trans u y w (tried_came tried) (under_came rest))

  -- level 1 is told by its type
  one_apart : {A : Type 0} (low high : ℕ) → low ≡ 1 → high ≢ 1 → level_type low ≡ level_type high → A
  one_apart low high is off e = absurd (by high off (ap level_type (sym is) ∙ e))
    where
      by : (k : ℕ) → k ≢ 1 → level_type 1 ≡ level_type k → ⊥
      by zero far s = cc
      by (suc zero) far s = far refl
      by (suc (suc zero)) far s = cc
      by (suc (suc (suc zero))) far s = cc
      by (suc (suc (suc (suc k)))) far s = cc

  module _ (says : ℕ → Bool) (n : ℕ) where
    under_alike : {y w x : PortValue} {answers others : List Bool} {a b : Result (Unit {0}) Stop} {r s : Result Locked Stop} → GivesAnswers says n answers → GivesAnswers says n others → AgreeLock r s →
        Under y w answers a r → Under y x others b s → Alike y w x ((answers ≡ others) × (a ≡ b))
    under_alike one two e (unlocked stop gave none end) (unlocked halt gone bare ends) = alike_map (puts_alike table gave.found gone.found) (λ s. (none ∙ sym bare, end ∙ (ap (λ z. Err z) e ∙ sym ends)))
    under_alike one two e (unlocked stop gave none end) (other found gone bare ends) = absurd e
    under_alike one two e (unlocked stop gave none end) (level high found off left bare ends) = absurd e
    under_alike one two e (unlocked stop gave none end) (exchanged low found is run) = absurd e
    under_alike one two e (other found gave none end) (unlocked halt gone bare ends) = absurd e
    under_alike one two e (other found gave none end) (other stood gone bare ends) =
        alike_map (puts_alike table gave.found gone.found) (λ s. (none ∙ sym bare, end ∙ (ap (λ z. Err (Refused (refusals.OtherType table L1 z))) e ∙ sym ends)))
    under_alike one two e (other found gave none end) (level high stood off left bare ends) = absurd e
    under_alike one two e (other found gave none end) (exchanged low stood is run) = absurd e
    under_alike one two e (level high found off left none end) (unlocked halt gone bare ends) = absurd e
    under_alike one two e (level high found off left none end) (other stood gone bare ends) = absurd e
    under_alike one two e (level high found off left none end) (level higher stood out gone bare ends) =
        alike_map (left_lock_alike left (lock_at higher high (sym e.1) gone)) (λ s. (none ∙ sym bare, end ∙ (ap (λ z. Err (Refused (refusals.OtherType table L1 z))) e.0 ∙ sym ends)))
    under_alike one two e (level high found off left none end) (exchanged low stood is run) = one_apart low high is off (sym e.1)
    under_alike one two e (exchanged low found is run) (unlocked halt gone bare ends) = absurd e
    under_alike one two e (exchanged low found is run) (other stood gone bare ends) = absurd e
    under_alike one two e (exchanged low found is run) (level high stood off left bare ends) = one_apart low high is off e.1
    under_alike one two e (exchanged low found is run) (exchanged lower stood also goes) = under_lock_alike table i word false 1 1 says n one two refl run goes

    enters_alike : {v w x : PortValue} {answers others : List Bool} {a b : Result (Unit {0}) Stop} → GivesAnswers says n answers → GivesAnswers says n others →
        Enters v w answers a → Enters v x others b → Alike v w x ((answers ≡ others) × (a ≡ b))
    enters_alike one two (unreferred stop got none end) (unreferred halt gets bare ends) =
        alike_map (gets_alike {A = ℕ} table o.tables (Err stop) (Err halt) got.found gets.found) (λ s. (none ∙ sym bare, end ∙ (ap (λ z. Err z) s ∙ sym ends)))
    enters_alike {v} {w} {x} one two (unreferred stop got none end) (referred u y r gets tried rest) =
        alike_apart (came_self w) (came_trans u y x (tried_came tried) (under_came rest)) (gets_alike {A = ℕ} table o.tables (Err stop) (Ok table) got.found gets.found) (λ s. absurd s)
    enters_alike {v} {w} {x} one two (referred u y r gets tried rest) (unreferred stop got none end) =
        alike_apart (came_trans u y w (tried_came tried) (under_came rest)) (came_self x) (gets_alike {A = ℕ} table o.tables (Ok table) (Err stop) gets.found got.found) (λ s. absurd s)
    enters_alike {v} {w} {x} {others = others} {b = b} one two (referred u y r got tried rest) (referred c d s gets tries more) =
        alike_next (λ z. TriedLock z d table o.tables s) (ref_came v u table o.tables _ got) (came_trans u y w (tried_came tried) (under_came rest)) (came_trans c d x (tried_came tries) (under_came more))
        (gets_alike {A = ℕ} table o.tables (Ok table) (Ok table) got.found gets.found) tries
        (λ e again. alike_next (λ z. Under z x others b s) (tried_came tried) (under_came rest) (under_came more) (tried_alike tried again) more
        (λ t behind. under_alike one two t rest behind))

pub entered_at_came : {v w : PortValue} {o : Owners} {table i word : ℕ} {answers : List Bool} {a : Result (Unit {0}) Stop} → EnteredAt v o table i word w answers a → Came v w
entered_at_came {v} {w} {o} {table} {i} {word} {answers} {a} p = enters_came o table i word (enters o table i word v w answers a p)

pub entered_at_alike : {v w x : PortValue} {o : Owners} {table i word : ℕ} {answers others : List Bool} {a b : Result (Unit {0}) Stop} (says : ℕ → Bool) (n : ℕ) → GivesAnswers says n answers → GivesAnswers says n others →
    EnteredAt v o table i word w answers a → EnteredAt v o table i word x others b → Alike v w x ((answers ≡ others) × (a ≡ b))
entered_at_alike {v} {w} {x} {o} {table} {i} {word} {answers} {others} {a} {b} says n one two p q =
    enters_alike o table i word says n one two (enters o table i word v w answers a p) (enters o table i word v x others b q)

-- ---- the whole: the table that the loads find is no part of the account
pub updated_at_came : {v w : PortValue} {o : Owners} {va word table : ℕ} {answers : List Bool} {a : Result (Unit {0}) Stop} → UpdatedAt v o va word table w answers a → Came v w
updated_at_came (ways.UpdatedAt.unled w stop far leads) = leads_came leads
updated_at_came {v} (ways.UpdatedAt.led u w answers answer leads enters) = came_trans v u w (leads_came leads) (entered_at_came enters)

pub updated_at_alike : {v w x : PortValue} {o : Owners} {va word table other : ℕ} {answers others : List Bool} {a b : Result (Unit {0}) Stop} (says : ℕ → Bool) (n : ℕ) → GivesAnswers says n answers → GivesAnswers says n others →
    UpdatedAt v o va word table w answers a → UpdatedAt v o va word other x others b → Alike v w x ((answers ≡ others) × (a ≡ b))
updated_at_alike says n one two (ways.UpdatedAt.unled w stop far leads) (ways.UpdatedAt.unled x halt out led) = alike_map (leads_alike leads led) (λ s. (refl, same_stop stop halt s))
  where
    same_stop : (e f : Stop) → ◌≡◌ {A = Led} (Err e) (Err f) → ◌≡◌ {A = Result (Unit {0}) Stop} (Err e) (Err f)
    same_stop e f s = let t : e ≡ f = cc in ap (λ z. Err z) t
updated_at_alike says n one two (ways.UpdatedAt.unled w stop far leads) (ways.UpdatedAt.led u x others b led enters) = alike_apart (came_self w) (entered_at_came enters) (leads_alike leads led) (λ s. absurd (let t = s in cc))
updated_at_alike says n one two (ways.UpdatedAt.led u w answers a led enters) (ways.UpdatedAt.unled x stop far leads) = alike_apart (entered_at_came enters) (came_self x) (leads_alike led leads) (λ s. absurd (let t = s in cc))
updated_at_alike {v} {o = o} {va} {word} {table} {other} says n one two (ways.UpdatedAt.led u w answers a leads enters) (ways.UpdatedAt.led y x others b led entered) =
    alike_next (λ z. EnteredAt z o other (index_of va 1) word x others b) (leads_came leads) (entered_at_came enters) (entered_at_came entered) (leads_alike leads led) entered
    (λ s behind. entered_at_alike says n one two enters (subst (λ z. EnteredAt u o z (index_of va 1) word x others b) (sym (same_table table other s)) behind))
  where
    same_table : (t k : ℕ) → ◌≡◌ {A = Led} (Ok t) (Ok k) → t ≡ k
    same_table t k e = cc
