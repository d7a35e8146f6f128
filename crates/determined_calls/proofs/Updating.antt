-- An element of mmu_update is determined by the words found and by the gate's answers.
use Rattle.std.proofs.Common.{◌≡◌, ◌≢◌, ◌⊎◌, ℕ, suc, Bool, true, false, List, [], None, Result, Ok, Err, refl, sym, ap, ◌∙◌, subst, inl, inr}
use Rattle.xp_words.specs.Entries.{is_slot}
use Rattle.xp_words.specs.declared.kind.PageType.TheVariants.{Writable}
use Rattle.xp_words.specs.declared.place.Place.TheVariants.{Cell}
use Rattle.xp_words.specs.declared.reply.Refusal.TheVariants as refusals
use Rattle.xp_words.specs.declared.reply.Stop.{Stop}
use Rattle.xp_words.specs.declared.reply.Stop.TheVariants.{Refused}
use Rattle.xp_board.specs.Told.{PortValue}
use Rattle.xp_board.specs.declared.step.Act.TheVariants.{Store}
use Rattle.xp_board.specs.declared.step.StepKind.TheVariants as kinds
use Rattle.step_maker.specs.Moves.{Came, Moves}
use Rattle.step_maker.proofs.Coming.{came_self, came_trans, moves_came}
use Rattle.step_maker.proofs.Visiting.{does_came}
use Rattle.partial_state.specs.Levels.{level_type}
use Rattle.xp_preempt.specs.Gates.{GivesAnswers}
use Rattle.foreign_map.specs.declared.owners.Owners.{Owners}
use Rattle.entry_locks.specs.declared.locking.Locked.{Locked}
use Rattle.entry_locks.specs.declared.locking.Locked.TheVariants.{Other, Table}
use Rattle.table_entries.specs.Acquiring.{GaveRef, GaveType, GotRef}
use Rattle.table_entries.proofs.Shared.{ref_came, gave_came}
use Rattle.writable_pages.specs.Pages.{TookPage}
use Rattle.entry_exchange.specs.Course.{Exchanged, LeftLock}
use Rattle.exchange_laws.proofs.Unlocking.{lock_came}
use Rattle.exchange_laws.proofs.Going.{took_page_came}
use Rattle.mmu_update.specs.Course as course
use Rattle.mmu_update.specs.Course.{TriedLock, Wrote, entry_update}
use Rattle.determined_laws.specs.Courses.{Alike}
use Rattle.determined_laws.specs.Forks.{AgreeLock}
use Rattle.determined_laws.proofs.Calls.{drops_plain_alike, drops_plain_came, gets_alike, puts_alike}
use Rattle.determined_laws.proofs.Courses.{alike_apart, alike_does, alike_map, alike_move, alike_next, alike_same}
use Rattle.determined_laws.proofs.References.{locks_tie}
use Rattle.determined_calls.proofs.Below.{took_page_alike}
use Rattle.determined_calls.proofs.Exchanging.{exchanged_alike, exchanged_came, left_lock_alike}
use Rattle.determined_calls.proofs.Levels.{at_top, lock_at, same_level}

-- ---- the lock
pub tried_came : {v w : PortValue} {f owner : ℕ} {a : Result Locked Stop} → TriedLock v w f owner a → Came v w
tried_came {v} {w} p = does_came v w _ p.found

pub tried_alike : {v w x : PortValue} {f owner : ℕ} {a b : Result Locked Stop} → TriedLock v w f owner a → TriedLock v x f owner b → Alike v w x (AgreeLock a b)
tried_alike {v} {f = f} {a = a} {b} p q = alike_does p.found q.found (λ us vs c d. locks_tie v.post.machine f a b us vs c d)

-- ---- one exchange under it, the level of the table told by its type
pub under_lock_alike : {v w x : PortValue} {o : Owners} {answers others : List Bool} {a b : Result (Unit {0}) Stop} (f i word : ℕ) (keep : Bool) (l k : ℕ) (says : ℕ → Bool) (n : ℕ) →
    GivesAnswers says n answers → GivesAnswers says n others → level_type l ≡ level_type k →
    Exchanged v (entry_update f l i word keep) o w answers a → Exchanged v (entry_update f k i word keep) o x others b → Alike v w x ((answers ≡ others) × (a ≡ b))
under_lock_alike {v} {w} {x} {o} {answers} {others} {a} {b} f i word keep l k says n one two e p q = by (same_level l k e)
  where
    by : (l ≡ k) ⊎ ((m : ℕ) × (j : ℕ) × (l ≡ suc (suc (suc (suc m)))) × (k ≡ suc (suc (suc (suc j))))) → Alike v w x ((answers ≡ others) × (a ≡ b))
    by (inl s) = exchanged_alike says n one two p (subst (λ z. Exchanged v (entry_update f z i word keep) o x others b) (sym s) q)
    by (inr (m, j, s, t)) =
        exchanged_alike says n one two (at_top f i word keep o m (subst (λ z. Exchanged v (entry_update f z i word keep) o w answers a) s p)) (at_top f i word keep o j (subst (λ z. Exchanged v (entry_update f z i word keep) o x others b) t q))

-- ---- a word that is written
module _ (o : Owners) (f i word : ℕ) (keep : Bool) where
  -- behind the try to take it as ordinary memory
  data Paged (c w : PortValue) (answers : List Bool) (a : Result (Unit {0}) Stop) : Result (Unit {0}) Stop → Type 0 where
    untaken : (stop : Stop) → w ≡ c → answers ≡ [] → a ≡ Err stop → Paged c w answers a (Err stop)
    stored : (b : PortValue) (old : ℕ) → Moves c b (Cell f i) (Store word) kinds.Cell None old → GaveType b w f Writable → answers ≡ [] → a ≡ Ok tt → Paged c w answers a (Ok tt)

  -- behind the try to lock it
  data Under (y w : PortValue) (answers : List Bool) (a : Result (Unit {0}) Stop) : Result Locked Stop → Type 0 where
    unlocked : (stop : Stop) → GaveRef y w f → answers ≡ [] → a ≡ Err stop → Under y w answers a (Err stop)
    slot : (level found : ℕ) → is_slot (level_type level) i ≡ true → LeftLock y f level w → answers ≡ [] → a ≡ Err (Refused (refusals.Slot i)) → Under y w answers a (Ok (Table level found))
    exchanged : (level found : ℕ) → is_slot (level_type level) i ≡ false → Exchanged y (entry_update f level i word keep) o w answers a → Under y w answers a (Ok (Table level found))
    page : (found : ℕ) (c : PortValue) (r : Result (Unit {0}) Stop) → TookPage y f o.tables c r → Paged c w answers a r → Under y w answers a (Ok (Other found))

  data Writes (v w : PortValue) (answers : List Bool) (a : Result (Unit {0}) Stop) : Type 0 where
    unreferred : (stop : Stop) → GotRef v w f o.tables (Err stop) → answers ≡ [] → a ≡ Err stop → Writes v w answers a
    referred : (u y : PortValue) (r : Result Locked Stop) → GotRef v u f o.tables (Ok f) → TriedLock u y f o.tables r → Under y w answers a r → Writes v w answers a

  writes : (v w : PortValue) (answers : List Bool) (a : Result (Unit {0}) Stop) → Wrote v o f i word keep w answers a → Writes v w answers a
  writes v _ _ _ (course.Wrote.unreferred w stop got) = unreferred stop got refl refl
  writes v _ _ _ (course.Wrote.unlocked u y w stop got tried gave) = referred u y _ got tried (unlocked stop gave refl refl)
  writes v _ _ _ (course.Wrote.slot u y w level found got tried is left) = referred u y _ got tried (slot level found is left refl refl)
  writes v _ _ _ (course.Wrote.exchanged u y w level found answers answer got tried off run) = referred u y _ got tried (exchanged level found off run)
  writes v _ _ _ (course.Wrote.untaken u y w found stop got tried took) = referred u y _ got tried (page found w (Err stop) took (untaken stop refl refl refl))
  writes v _ _ _ (course.Wrote.stored u y a b w found old got tried took stores gave) = referred u y _ got tried (page found a (Ok tt) took (stored b old stores gave refl refl))

  paged_came : {c w : PortValue} {answers : List Bool} {a r : Result (Unit {0}) Stop} → Paged c w answers a r → Came c w
  paged_came {c} (untaken stop same none end) = subst (λ z. Came c z) (sym same) (came_self c)
  paged_came {c} {w} (stored b old stores gave none end) = came_trans c b w (moves_came c b _ _ _ _ _ stores) (drops_plain_came b w f Writable gave.found)

  under_came : {y w : PortValue} {answers : List Bool} {a : Result (Unit {0}) Stop} {r : Result Locked Stop} → Under y w answers a r → Came y w
  under_came {y} {w} (unlocked stop gave none end) = gave_came y w f gave
  under_came {y} {w} (slot level found is left none end) = lock_came y w f level left
  under_came (exchanged level found off run) = exchanged_came run
  under_came {y} {w} (page found c r took rest) = came_trans y c w (took_page_came y f o.tables c r took) (paged_came rest)

  writes_came : {v w : PortValue} {answers : List Bool} {a : Result (Unit {0}) Stop} → Writes v w answers a → Came v w
  writes_came {v} {w} (unreferred stop got none end) = ref_came v w f o.tables _ got
  writes_came {v} {w} (referred u y r got tried rest) = came_trans v u w (ref_came v u f o.tables _ got) (came_trans u y w (tried_came tried) (under_came rest))

  paged_alike : {c w x : PortValue} {answers others : List Bool} {a b r : Result (Unit {0}) Stop} → Paged c w answers a r → Paged c x others b r → Alike c w x ((answers ≡ others) × (a ≡ b))
  paged_alike (untaken stop same none end) (untaken _ still nought ends) = alike_same (same ∙ sym still) (none ∙ sym nought, end ∙ sym ends)
  paged_alike {c} {w} {x} (stored b old stores gave none end) (stored d other puts gone nought ends) =
      alike_next (λ z. GaveType z x f Writable) (moves_came c b _ _ _ _ _ stores) (drops_plain_came b w f Writable gave.found) (drops_plain_came d x f Writable gone.found) (alike_move stores puts) gone
      (λ e more. alike_map (drops_plain_alike f Writable gave.found more.found) (λ s. (none ∙ sym nought, end ∙ sym ends)))

  module _ (says : ℕ → Bool) (n : ℕ) where
    apart_slot : {A : Type 0} (l k : ℕ) → level_type l ≡ level_type k → is_slot (level_type l) i ≡ true → is_slot (level_type k) i ≡ false → A
    apart_slot l k e is off = absurd (let t = sym is ∙ (ap (λ z. is_slot z i) e ∙ off) in cc)

    under_alike : {y w x : PortValue} {answers others : List Bool} {a b : Result (Unit {0}) Stop} {r s : Result Locked Stop} → GivesAnswers says n answers → GivesAnswers says n others → AgreeLock r s →
        Under y w answers a r → Under y x others b s → Alike y w x ((answers ≡ others) × (a ≡ b))
    under_alike one two e (unlocked stop gave none end) (unlocked halt gone nought ends) = alike_map (puts_alike f gave.found gone.found) (λ s. (none ∙ sym nought, end ∙ (ap (λ z. Err z) e ∙ sym ends)))
    under_alike one two e (unlocked stop gave none end) (slot level found is left nought ends) = absurd e
    under_alike one two e (unlocked stop gave none end) (exchanged level found off run) = absurd e
    under_alike one two e (unlocked stop gave none end) (page found c r took rest) = absurd e
    under_alike one two e (slot level found is left none end) (unlocked stop gave nought ends) = absurd e
    under_alike one two e (slot level found is left none end) (slot higher other also off nought ends) = alike_map (left_lock_alike left (lock_at higher level (sym e.1) off)) (λ s. (none ∙ sym nought, end ∙ sym ends))
    under_alike one two e (slot level found is left none end) (exchanged higher other off run) = apart_slot level higher e.1 is off
    under_alike one two e (slot level found is left none end) (page other c r took rest) = absurd e
    under_alike one two e (exchanged level found off run) (unlocked stop gave nought ends) = absurd e
    under_alike one two e (exchanged level found off run) (slot higher other also left nought ends) = apart_slot higher level (sym e.1) also off
    under_alike one two e (exchanged level found off run) (exchanged higher other out goes) = under_lock_alike f i word keep level higher says n one two e.1 run goes
    under_alike one two e (exchanged level found off run) (page other c r took rest) = absurd e
    under_alike one two e (page found c r took rest) (unlocked stop gave nought ends) = absurd e
    under_alike one two e (page found c r took rest) (slot level other is left nought ends) = absurd e
    under_alike one two e (page found c r took rest) (exchanged level other off run) = absurd e
    under_alike {y} {w} {x} {others = others} {b = b} one two e (page found c r took rest) (page other d s take more) =
        alike_next (λ z. Paged z x others b s) (took_page_came y f o.tables c r took) (paged_came rest) (paged_came more) (took_page_alike took take) more
        (λ t behind. paged_alike rest (subst (λ z. Paged c x others b z) (sym t) behind))

    writes_alike : {v w x : PortValue} {answers others : List Bool} {a b : Result (Unit {0}) Stop} → GivesAnswers says n answers → GivesAnswers says n others →
        Writes v w answers a → Writes v x others b → Alike v w x ((answers ≡ others) × (a ≡ b))
    writes_alike one two (unreferred stop got none end) (unreferred halt gets nought ends) = alike_map (gets_alike {A = ℕ} f o.tables (Err stop) (Err halt) got.found gets.found) (λ s. (none ∙ sym nought, end ∙ (ap (λ z. Err z) s ∙ sym ends)))
    writes_alike {v} {w} {x} one two (unreferred stop got none end) (referred u y r gets tried rest) =
        alike_apart (came_self w) (came_trans u y x (tried_came tried) (under_came rest)) (gets_alike {A = ℕ} f o.tables (Err stop) (Ok f) got.found gets.found) (λ s. absurd s)
    writes_alike {v} {w} {x} one two (referred u y r gets tried rest) (unreferred stop got none end) =
        alike_apart (came_trans u y w (tried_came tried) (under_came rest)) (came_self x) (gets_alike {A = ℕ} f o.tables (Ok f) (Err stop) gets.found got.found) (λ s. absurd s)
    writes_alike {v} {w} {x} {others = others} {b = b} one two (referred u y r got tried rest) (referred c d s gets tries more) =
        alike_next (λ z. TriedLock z d f o.tables s) (ref_came v u f o.tables _ got) (came_trans u y w (tried_came tried) (under_came rest)) (came_trans c d x (tried_came tries) (under_came more)) (gets_alike {A = ℕ} f o.tables (Ok f) (Ok f) got.found gets.found) tries
        (λ e again. alike_next (λ z. Under z x others b s) (tried_came tried) (under_came rest) (under_came more) (tried_alike tried again) more
        (λ t behind. under_alike one two t rest behind))

pub wrote_came : {v w : PortValue} {o : Owners} {f i word : ℕ} {keep : Bool} {answers : List Bool} {a : Result (Unit {0}) Stop} → Wrote v o f i word keep w answers a → Came v w
wrote_came {v} {w} {o} {f} {i} {word} {keep} {answers} {a} p = writes_came o f i word keep (writes o f i word keep v w answers a p)

pub wrote_alike : {v w x : PortValue} {o : Owners} {f i word : ℕ} {keep : Bool} {answers others : List Bool} {a b : Result (Unit {0}) Stop} (says : ℕ → Bool) (n : ℕ) → GivesAnswers says n answers → GivesAnswers says n others →
    Wrote v o f i word keep w answers a → Wrote v o f i word keep x others b → Alike v w x ((answers ≡ others) × (a ≡ b))
wrote_alike {v} {w} {x} {o} {f} {i} {word} {keep} {answers} {others} {a} {b} says n one two p q =
    writes_alike o f i word keep says n one two (writes o f i word keep v w answers a p) (writes o f i word keep v x others b q)
