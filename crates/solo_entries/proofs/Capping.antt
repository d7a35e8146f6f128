-- A table of any level above 4 is one of level 4: so is its exchange.
use Rattle.std.proofs.Common.{◌≡◌, ℕ, suc, ◌-◌, ◌==◌, if◌then◌else◌, Bool, false, List, Result, Ok, Err, refl, sym, ap, ◌∙◌, subst, arith}
use Rattle.std.proofs.lemmas.Bool.Decides.{nat_tests}
use Rattle.xp_words.specs.declared.entry.Demand.{Demand}
use Rattle.xp_words.specs.declared.entry.Demand.TheVariants as demands
use Rattle.xp_words.specs.declared.kind.PageType.{PageType}
use Rattle.xp_words.specs.declared.kind.PageType.TheVariants as kinds
use Rattle.xp_words.specs.declared.reply.Stop.{Stop}
use Rattle.xp_board.specs.Told.{PortValue}
use Rattle.entry_exchange.specs.Course as course
use Rattle.entry_exchange.specs.Course.{Exchanged, GaveDemand, LeftLock, TookDemand, new_demand}
use Rattle.entry_exchange.specs.Holding.{owner_at}
use Rattle.foreign_map.specs.declared.owners.Owners.{Owners}
use Rattle.mmu_update.specs.Course.{entry_update}
use Rattle.partial_state.specs.Levels.{level_type}
use Rattle.table_law.proofs.Counting.{asks_at}

-- a level above 4
abbrev pub above : ℕ → ℕ
above l = suc (suc (suc (suc (suc l))))

type_below : (l : ℕ) → level_type (above l - 1) ≡ kinds.L4
type_below l = let e : above l - 1 ≡ suc (suc (suc (suc l))) = omega arith in ap level_type e

cap_lock : (v : PortValue) (f l : ℕ) (w : PortValue) → LeftLock v f (above l) w → LeftLock v f 4 w
cap_lock v f l _ (course.shared u w off gave) = course.shared u w off gave
cap_lock v f l _ (course.last u y w found off store names) = course.last u y w found off store names

-- what an entry of such a table asks is a table of level 3
Asks : Demand → Type 0
Asks d = (g : ℕ) (t : PageType) → d ≡ demands.Typed g t → t ≡ kinds.L3

not_three : (l g : ℕ) → kinds.L4 ≡ kinds.L3 → ⊥
not_three l g e = cc

cap_took : (owner l : ℕ) (v : PortValue) (d : Demand) (w : PortValue) (answers : List Bool) (r : Result (Unit {0}) Stop) → Asks d → TookDemand owner (above l) v d w answers r → TookDemand owner 4 v d w answers r
unfolding Asks
cap_took owner l v _ _ _ _ asks course.nothing = course.nothing
cap_took owner l v _ _ _ _ asks (course.referred w g ref) = course.referred w g ref
cap_took owner l v _ _ _ _ asks (course.unreferred w g stop ref) = course.unreferred w g stop ref
cap_took owner l v _ _ _ _ asks (course.paged w g one page) = absurd (omega (arith, one))
cap_took owner l v _ _ _ _ asks (course.unpaged w g stop one page) = absurd (omega (arith, one))
cap_took owner l v _ _ _ _ asks (course.acquired w g answers two had) = absurd (not_three l g (sym (type_below l) ∙ asks g (level_type (above l - 1)) refl))
cap_took owner l v _ _ _ _ asks (course.refused w g answers stop two had) = absurd (not_three l g (sym (type_below l) ∙ asks g (level_type (above l - 1)) refl))

cap_gave : (owner l : ℕ) (v : PortValue) (d : Demand) (w : PortValue) → Asks d → GaveDemand owner (above l) v d w → GaveDemand owner 4 v d w
unfolding Asks
cap_gave owner l v _ _ asks course.nothing = course.nothing
cap_gave owner l v _ _ asks (course.referred w g gave) = course.referred w g gave
cap_gave owner l v _ _ asks (course.paged w g one gave) = absurd (omega (arith, one))
cap_gave owner l v _ _ asks (course.shared u w g two drops gave) = absurd (not_three l g (sym (type_below l) ∙ asks g (level_type (above l - 1)) refl))
cap_gave owner l v _ _ asks (course.last u w g two drops kept) = absurd (not_three l g (sym (type_below l) ∙ asks g (level_type (above l - 1)) refl))

owner_above : (l a b : ℕ) → owner_at (above l) a b ≡ owner_at 4 a b
owner_above l a b = let e : (above l == 1) ≡ false = grind (arith, nat_tests) in ap (λ c. if c then b else a) e

module _ (v : PortValue) (f l i word : ℕ) (keep : Bool) (o : Owners) where
  asks_three : (seen : ℕ) → Asks (new_demand (entry_update f 4 i word keep) seen)
  unfolding Asks
  asks_three seen g t is = asks_at 3 i _ g t (omega arith) is

  cap_with : (a : ℕ) → a ≡ owner_at 4 o.tables o.frames → (u y : PortValue) (seen : ℕ) (answers : List Bool) (r : Result (Unit {0}) Stop) → TookDemand a (above l) u (new_demand (entry_update f 4 i word keep) seen) y answers r →
      TookDemand (owner_at 4 o.tables o.frames) 4 u (new_demand (entry_update f 4 i word keep) seen) y answers r
  cap_with a is u y seen answers r took = subst (λ b. TookDemand b 4 u (new_demand (entry_update f 4 i word keep) seen) y answers r) is (cap_took a l u _ y answers r (asks_three seen) took)

  pub capped : (w : PortValue) (answers : List Bool) (r : Result (Unit {0}) Stop) → Exchanged v (entry_update f (above l) i word keep) o w answers r → Exchanged v (entry_update f 4 i word keep) o w answers r
  capped _ _ _ (course.bad u w seen saw bad lock) = course.bad u w seen saw bad (cap_lock u f l w lock)
  capped _ _ _ (course.same u y w seen old saw same puts lock) = course.same u y w seen old saw same puts (cap_lock y f l w lock)
  capped _ _ _ (course.unput u y w seen stop saw same puts lock) = course.unput u y w seen stop saw same puts (cap_lock y f l w lock)
  capped _ _ _ (course.untaken u y w seen answers stop saw differ a lock) =
      course.untaken u y w seen answers stop saw differ (cap_with (owner_at (above l) o.tables o.frames) (owner_above l o.tables o.frames) u y seen answers (Err stop) a) (cap_lock y f l w lock)
  capped _ _ _ (course.lost u y z a w seen answers stop saw differ took puts gave lock) =
      course.lost u y z a w seen answers stop saw differ (cap_with (owner_at (above l) o.tables o.frames) (owner_above l o.tables o.frames) u y seen answers (Ok tt) took) puts
      (subst (λ b. GaveDemand b 4 z (new_demand (entry_update f 4 i word keep) seen) a) (owner_above l o.tables o.frames) (cap_gave (owner_at (above l) o.tables o.frames) l z _ a (asks_three seen) gave)) (cap_lock a f l w lock)
  capped _ _ _ (course.done u y z a w seen old answers more saw differ took puts lock gone) =
      course.done u y z a w seen old answers more saw differ (cap_with (owner_at (above l) o.tables o.frames) (owner_above l o.tables o.frames) u y seen answers (Ok tt) took) puts (cap_lock z f l a lock) gone
