-- An exchange of one entry under the table's lock is determined by the words found and by the gate's answers.
use Rattle.std.proofs.Common.{◌≡◌, ◌≢◌, ℕ, ◌+◌, ◌-◌, Bool, true, false, List, [], ◌∷◌, ◌++◌, length, None, Result, Ok, Err, refl, sym, ap, ◌∙◌, subst}
use Rattle.xp_words.specs.declared.entry.Demand.{Demand}
use Rattle.xp_words.specs.declared.entry.Demand.TheVariants as demands
use Rattle.xp_words.specs.declared.place.Place.TheVariants.{Cell, Kind}
use Rattle.xp_words.specs.declared.reply.Pause.TheVariants.{Lost}
use Rattle.xp_words.specs.declared.reply.Refusal.TheVariants.{Reserved}
use Rattle.xp_words.specs.declared.reply.Stop.{Stop}
use Rattle.xp_words.specs.declared.reply.Stop.TheVariants.{Paused, Refused}
use Rattle.xp_words.specs.Places.{number, sizes_of}
use Rattle.xp_board.specs.Told.{PortValue}
use Rattle.xp_board.specs.CellSteps.{is_same_demand}
use Rattle.step_maker.specs.Moves.{Came, Moves}
use Rattle.step_maker.proofs.Coming.{came_post, came_self, came_trans, moves_came}
use Rattle.partial_state.specs.Levels.{level_type}
use Rattle.kind_words.specs.Kinds.{partial_kind}
use Rattle.xp_words.specs.KindWords.{kind_write}
use Rattle.xp_board.specs.declared.step.Act.TheVariants.{Load, Store}
use Rattle.xp_board.specs.declared.step.StepKind.TheVariants as kinds
use Rattle.table_words.specs.OldWords.{old_place}
use Rattle.table_words.specs.declared.old_words.OldWord.TheVariants.{Second}
use Rattle.xp_preempt.specs.Gates.{GivesAnswers, asks_on}
use Rattle.foreign_map.specs.declared.owners.Owners.{Owners}
use Rattle.table_entries.specs.Acquiring.{GaveRef}
use Rattle.table_entries.proofs.Shared.{gave_came}
use Rattle.entry_exchange.specs.Course as course
use Rattle.entry_exchange.specs.Course.{Exchanged, GaveDemand, LeftLock, PutEntry, PutsNew, ReleasedDemand, SawEntry, TookDemand, TookNew, new_demand, old_demand}
use Rattle.entry_exchange.specs.Holding.{owner_at}
use Rattle.entry_exchange.specs.declared.exchanging.EntryUpdate.{EntryUpdate}
use Rattle.entry_exchange.specs.Words.{same_demand, word_kept}
use Rattle.exchange_laws.proofs.Going.{demand_came}
use Rattle.exchange_laws.proofs.Putting.{put_came}
use Rattle.exchange_laws.proofs.Unlocking.{lock_came}
use Rattle.determined_laws.specs.Courses.{Alike}
use Rattle.determined_laws.proofs.Calls.{puts_alike, unlocks_alike, unlocks_came}
use Rattle.determined_laws.proofs.Courses.{alike_apart, alike_map, alike_move, alike_next, alike_same}
use Rattle.determined_calls.proofs.Asking.{gives_first, gives_more}
use Rattle.determined_calls.proofs.Demands.{ended, gave_demand_alike, gave_demand_came, released_demand_alike, released_demand_came, took_demand_alike}

-- ---- the lock goes off
pub left_lock_alike : {v w x : PortValue} {f level : ℕ} → LeftLock v f level w → LeftLock v f level x → Alike v w x (Unit {0})
left_lock_alike {f = f} (course.LeftLock.shared u w p q) (course.LeftLock.shared y x r s) =
    alike_next (λ z. GaveRef z x f) (unlocks_came p) (gave_came u w f q) (gave_came y x f s) (unlocks_alike p r) s (λ e more. puts_alike f q.found more.found)
left_lock_alike {f = f} {level} (course.LeftLock.shared u w p q) (course.LeftLock.last y z x found r s t) = alike_apart (gave_came u w f q) (came_trans y z x (moves_came y z _ _ _ _ _ s) (moves_came z x _ _ _ _ _ t)) (unlocks_alike p r) (λ e. cc)
left_lock_alike {f = f} (course.LeftLock.last y z x found r s t) (course.LeftLock.shared u w p q) = alike_apart (came_trans y z x (moves_came y z _ _ _ _ _ s) (moves_came z x _ _ _ _ _ t)) (gave_came u w f q) (unlocks_alike r p) (λ e. cc)
left_lock_alike {v} {f = f} {level} (course.LeftLock.last u y w found p q r) (course.LeftLock.last a b x other i j k) =
    alike_next (λ z. Moves z b (Kind f) (Store (kind_write (partial_kind (level_type level) false false 512 0))) kinds.Kind None other) (unlocks_came p) (came_trans u y w (moves_came u y _ _ _ _ _ q) (moves_came y w _ _ _ _ _ r))
    (came_trans a b x (moves_came a b _ _ _ _ _ j) (moves_came b x _ _ _ _ _ k)) (unlocks_alike p i) j
    (λ e more. alike_next (λ z. Moves z x (old_place v.post.vcpu Second) (Store (f + 1)) kinds.Context None 0) (moves_came u y _ _ _ _ _ q) (moves_came y w _ _ _ _ _ r) (moves_came b x _ _ _ _ _ k) (alike_move q more) k
    (λ same last. alike_map (alike_move r last) (λ s. tt)))

-- ---- the entry
pub put_alike : {v w x : PortValue} {f i seen new : ℕ} {keep : Bool} {a b : Result ℕ Stop} → PutEntry v w f i seen new keep a → PutEntry v x f i seen new keep b → Alike v w x (a ≡ b)
put_alike (course.PutEntry.stored old p) (course.PutEntry.stored other q) = alike_map (alike_move p q) (λ e. ap (λ z. Ok z) e)
put_alike (course.PutEntry.exchanged p) (course.PutEntry.exchanged q) = alike_map (alike_move p q) (λ e. refl)
put_alike (course.PutEntry.exchanged p) (course.PutEntry.lost found off q) = alike_map (alike_move p q) (λ e. absurd (off (sym e)))
put_alike (course.PutEntry.lost found off p) (course.PutEntry.exchanged q) = alike_map (alike_move p q) (λ e. absurd (off e))
put_alike {v} {f = f} {i} {seen} (course.PutEntry.lost found off p) (course.PutEntry.lost other out q) = alike_map (alike_move p q) (λ e. ap (λ z. Err (Paused (Lost (number (sizes_of v.post.machine) (Cell f i)) seen z))) e)

-- ---- behind the look at the entry
module _ (x : EntryUpdate) (o : Owners) (seen : ℕ) where
  -- behind the try to put the new word
  data Put (v w : PortValue) (first answers : List Bool) (a : Result (Unit {0}) Stop) : Result ℕ Stop → Type 0 where
    lost : (y : PortValue) (stop : Stop) → GaveDemand (owner_at x.level o.tables o.frames) x.level v (new_demand x seen) y → LeftLock y x.table x.level w → answers ≡ first → a ≡ Err stop → Put v w first answers a (Err stop)
    done : (y : PortValue) (old : ℕ) (more : List Bool) → LeftLock v x.table x.level y → ReleasedDemand y (old_demand x old) w more → answers ≡ more ++ first → a ≡ Ok tt → Put v w first answers a (Ok old)

  -- behind the try to take what it asks
  data Took (v w : PortValue) (first answers : List Bool) (a : Result (Unit {0}) Stop) : Result (Unit {0}) Stop → Type 0 where
    untaken : (stop : Stop) → LeftLock v x.table x.level w → answers ≡ first → a ≡ Err stop → Took v w first answers a (Err stop)
    taken : (y : PortValue) (r : Result ℕ Stop) → PutsNew v y x seen r → Put y w first answers a r → Took v w first answers a (Ok tt)

  data Seen (v w : PortValue) (answers : List Bool) (a : Result (Unit {0}) Stop) : Type 0 where
    bad : new_demand x seen ≡ demands.Bad → LeftLock v x.table x.level w → answers ≡ [] → a ≡ Err (Refused (Reserved x.table x.index (word_kept x.keep seen x.word))) → Seen v w answers a
    same : (y : PortValue) (r : Result ℕ Stop) → same_demand (new_demand x seen) (old_demand x seen) ≡ true → PutsNew v y x seen r → LeftLock y x.table x.level w → answers ≡ [] → a ≡ ended r → Seen v w answers a
    other : (y : PortValue) (first : List Bool) (r : Result (Unit {0}) Stop) → same_demand (new_demand x seen) (old_demand x seen) ≡ false → TookNew v y x o seen first r → Took y w first answers a r → Seen v w answers a

  put_came_so : {v w : PortValue} {first answers : List Bool} {a : Result (Unit {0}) Stop} {r : Result ℕ Stop} → Put v w first answers a r → Came v w
  put_came_so {v} {w} (lost y stop gave left is end) = came_trans v y w (gave_demand_came _ _ v _ y gave) (lock_came y w _ _ left)
  put_came_so {v} {w} (done y old more left released is end) = came_trans v y w (lock_came v y _ _ left) (released_demand_came y _ w more released)

  took_came_so : {v w : PortValue} {first answers : List Bool} {a r : Result (Unit {0}) Stop} → Took v w first answers a r → Came v w
  took_came_so {v} {w} (untaken stop left is end) = lock_came v w _ _ left
  took_came_so {v} {w} (taken y r puts rest) = came_trans v y w (put_came v y _ _ _ _ _ r puts) (put_came_so rest)

  seen_came : {v w : PortValue} {answers : List Bool} {a : Result (Unit {0}) Stop} → Seen v w answers a → Came v w
  seen_came {v} {w} (bad is left none end) = lock_came v w _ _ left
  seen_came {v} {w} (same y r is puts left none end) = came_trans v y w (put_came v y _ _ _ _ _ r puts) (lock_came y w _ _ left)
  seen_came {v} {w} (other y first r off took rest) = came_trans v y w (demand_came _ _ v _ y first r took) (took_came_so rest)

  module _ (says : ℕ → Bool) (n : ℕ) where
    put_rest : {v w y : PortValue} {first answers others : List Bool} {a b : Result (Unit {0}) Stop} {r : Result ℕ Stop} → GivesAnswers says n answers → GivesAnswers says n others →
        Put v w first answers a r → Put v y first others b r → Alike v w y ((answers ≡ others) × (a ≡ b))
    put_rest {v} {w} {y} one two (lost c stop gave left is end) (lost d _ gone off also ends) =
        alike_next (λ z. LeftLock z x.table x.level y) (gave_demand_came _ _ v _ c gave) (lock_came c w _ _ left) (lock_came d y _ _ off) (gave_demand_alike gave gone) off
        (λ e more. alike_map (left_lock_alike left more) (λ s. (is ∙ sym also, end ∙ sym ends)))
    put_rest {v} {w} {y} {first} one two (done c old more left released is end) (done d _ extra off gone also ends) =
        alike_next (λ z. ReleasedDemand z (old_demand x old) y extra) (lock_came v c _ _ left) (released_demand_came c _ w more released) (released_demand_came d _ y extra gone) (left_lock_alike left off) gone
        (λ e rest. alike_map (released_demand_alike says (asks_on (length first) n) (gives_more says n more first (subst (GivesAnswers says n) is one))
        (gives_more says n extra first (subst (GivesAnswers says n) also two)) released rest) (λ s. (is ∙ (ap (λ z. z ++ first) s ∙ sym also), end ∙ sym ends)))

    took_rest : {v w y : PortValue} {first answers others : List Bool} {a b r : Result (Unit {0}) Stop} → GivesAnswers says n answers → GivesAnswers says n others →
        Took v w first answers a r → Took v y first others b r → Alike v w y ((answers ≡ others) × (a ≡ b))
    took_rest one two (untaken stop left is end) (untaken _ off also ends) = alike_map (left_lock_alike left off) (λ s. (is ∙ sym also, end ∙ sym ends))
    took_rest {v} {w} {y} {first} {answers} {others} {a} {b} one two (taken c r puts rest) (taken d s put more) =
        alike_next (λ z. Put z y first others b s) (put_came v c _ _ _ _ _ r puts) (put_came_so rest) (put_came_so more) (put_alike puts put) more
        (λ e behind. put_rest one two rest (subst (λ z. Put c y first others b z) (sym e) behind))

    bad_differs : (d e : Demand) → d ≡ demands.Bad → same_demand d e ≡ true → ⊥
    bad_differs d e is alike = by e (subst (λ z. is_same_demand e z ≡ true) is alike)
      where
        by : (z : Demand) → is_same_demand z demands.Bad ≡ true → ⊥
        by demands.Nothing s = cc
        by demands.Bad s = cc
        by (demands.Read g) s = cc
        by (demands.Typed g t) s = cc

    bad_untaken : {owner level : ℕ} {v w : PortValue} {first : List Bool} {r : Result (Unit {0}) Stop} (d : Demand) → d ≡ demands.Bad → TookDemand owner level v d w first r → ⊥
    bad_untaken d is course.TookDemand.nothing = cc
    bad_untaken d is (course.TookDemand.referred w g ref) = cc
    bad_untaken d is (course.TookDemand.unreferred w g stop ref) = cc
    bad_untaken d is (course.TookDemand.paged w g one page) = cc
    bad_untaken d is (course.TookDemand.unpaged w g stop one page) = cc
    bad_untaken d is (course.TookDemand.acquired w g answers two had) = cc
    bad_untaken d is (course.TookDemand.refused w g answers stop two had) = cc

    apart : {A : Type 0} (c : Bool) → c ≡ true → c ≡ false → A
    apart c on off = absurd (let e = sym on ∙ off in cc)

    seen_alike : {v w y : PortValue} {answers others : List Bool} {a b : Result (Unit {0}) Stop} → GivesAnswers says n answers → GivesAnswers says n others →
        Seen v w answers a → Seen v y others b → Alike v w y ((answers ≡ others) × (a ≡ b))
    seen_alike one two (bad is left none end) (bad also off barred ends) = alike_map (left_lock_alike left off) (λ s. (none ∙ sym barred, end ∙ sym ends))
    seen_alike one two (bad is left none end) (same c r is' puts off barred ends) = absurd (bad_differs _ _ is is')
    seen_alike one two (bad is left none end) (other c first r off took rest) = absurd (bad_untaken _ is took)
    seen_alike one two (same c r is puts left none end) (bad also off barred ends) = absurd (bad_differs _ _ also is)
    seen_alike {v} {w} {y} one two (same c r is puts left none end) (same d s also put off barred ends) =
        alike_next (λ z. LeftLock z x.table x.level y) (put_came v c _ _ _ _ _ r puts) (lock_came c w _ _ left) (lock_came d y _ _ off) (put_alike puts put) off
        (λ e more. alike_map (left_lock_alike left more) (λ t. (none ∙ sym barred, end ∙ (ap ended e ∙ sym ends))))
    seen_alike one two (same c r is puts left none end) (other d first s off took rest) = apart _ is off
    seen_alike one two (other c first r off took rest) (bad also left none end) = absurd (bad_untaken _ also took)
    seen_alike one two (other c first r off took rest) (same d s also puts left none end) = apart _ also off
    seen_alike {v} {w} {y} {answers} {others} {a} {b} one two (other c first r off took rest) (other d front s out take more) =
        alike_next (λ z. Took z y front others b s) (demand_came _ _ v _ c first r took) (took_came_so rest) (took_came_so more)
        (took_demand_alike says n (took_first rest one) (took_first more two) took take) more
        (λ e behind. took_rest one two rest (subst (λ z. Took c y z others b r) (sym e.0) (subst (λ z. Took c y front others b z) (sym e.1) behind)))
      where
        put_first : {u z : PortValue} {fs gs : List Bool} {q : Result (Unit {0}) Stop} {k : Result ℕ Stop} → Put u z fs gs q k → GivesAnswers says n gs → GivesAnswers says n fs
        put_first (lost e stop gave left is end) g = subst (GivesAnswers says n) is g
        put_first {fs = fs} (done e old more left released is end) g = gives_first says n more fs (subst (GivesAnswers says n) is g)

        took_first : {u z : PortValue} {fs gs : List Bool} {q k : Result (Unit {0}) Stop} → Took u z fs gs q k → GivesAnswers says n gs → GivesAnswers says n fs
        took_first (untaken stop left is end) g = subst (GivesAnswers says n) is g
        took_first (taken e k puts rest) g = put_first rest g

-- ---- the whole: a look at the entry, and what follows it
data Looks (v : PortValue) (x : EntryUpdate) (o : Owners) (w : PortValue) (answers : List Bool) (a : Result (Unit {0}) Stop) : Type 0 where
  looked : (u : PortValue) (seen : ℕ) → SawEntry v u x.table x.index seen → Seen x o seen u w answers a → Looks v x o w answers a

looks : (v : PortValue) (x : EntryUpdate) (o : Owners) (w : PortValue) (answers : List Bool) (a : Result (Unit {0}) Stop) → Exchanged v x o w answers a → Looks v x o w answers a
looks v x o _ _ _ (course.Exchanged.bad u w seen saw is left) = looked u seen saw (bad is left refl refl)
looks v x o _ _ _ (course.Exchanged.same u y w seen old saw is put left) = looked u seen saw (same y (Ok old) is put left refl refl)
looks v x o _ _ _ (course.Exchanged.unput u y w seen stop saw is put left) = looked u seen saw (same y (Err stop) is put left refl refl)
looks v x o _ _ _ (course.Exchanged.untaken u y w seen answers stop saw off took left) = looked u seen saw (other y answers (Err stop) off took (untaken stop left refl refl))
looks v x o _ _ _ (course.Exchanged.lost u y z a w seen answers stop saw off took put gave left) = looked u seen saw (other y answers (Ok tt) off took (taken z (Err stop) put (lost a stop gave left refl refl)))
looks v x o _ _ _ (course.Exchanged.done u y z a w seen old answers more saw off took put left gone) = looked u seen saw (other y answers (Ok tt) off took (taken z (Ok old) put (done a old more left gone refl refl)))

pub exchanged_came : {v w : PortValue} {x : EntryUpdate} {o : Owners} {answers : List Bool} {a : Result (Unit {0}) Stop} → Exchanged v x o w answers a → Came v w
exchanged_came {v} {w} {x} {o} {answers} {a} p = by (looks v x o w answers a p)
  where
    by : Looks v x o w answers a → Came v w
    by (looked u seen saw rest) = came_trans v u w (moves_came v u _ _ _ _ _ saw) (seen_came x o seen rest)

pub exchanged_alike : {v w y : PortValue} {x : EntryUpdate} {o : Owners} {answers others : List Bool} {a b : Result (Unit {0}) Stop} (says : ℕ → Bool) (n : ℕ) → GivesAnswers says n answers → GivesAnswers says n others →
    Exchanged v x o w answers a → Exchanged v x o y others b → Alike v w y ((answers ≡ others) × (a ≡ b))
exchanged_alike {v} {w} {y} {x} {o} {answers} {others} {a} {b} says n one two p q = by (looks v x o w answers a p) (looks v x o y others b q)
  where
    by : Looks v x o w answers a → Looks v x o y others b → Alike v w y ((answers ≡ others) × (a ≡ b))
    by (looked u seen saw rest) (looked c found see more) =
        alike_next (λ z. Seen x o found z y others b) (moves_came v u _ _ _ _ _ saw) (seen_came x o seen rest) (seen_came x o found more) (alike_move saw see) more
        (λ e behind. seen_alike x o seen says n one two rest (subst (λ z. Seen x o z u y others b) (sym e) behind))
