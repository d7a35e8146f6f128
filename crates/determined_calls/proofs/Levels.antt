-- The level of a table is told by its type alone, and from 4 on all are one: an exchange on a table of type L4 is one on a table of level 4.
use Rattle.std.proofs.Common.{◌≡◌, ◌⊎◌, ℕ, zero, suc, ◌+◌, ◌-◌, ◌==◌, if◌then◌else◌, Bool, true, false, List, ◌++◌, None, Result, Ok, Err, refl, sym, ap, ◌∙◌, subst, inl, inr}
use native.Mathlib.Omega.{arith}
use Rattle.xp_words.specs.declared.entry.Demand.{Demand}
use Rattle.xp_words.specs.declared.entry.Demand.TheVariants as demands
use Rattle.xp_words.specs.declared.kind.PageType.{PageType}
use Rattle.xp_words.specs.declared.kind.PageType.TheVariants as types
use Rattle.xp_words.specs.declared.reply.Stop.{Stop}
use Rattle.xp_words.specs.Entries.{demand_at}
use Rattle.xp_board.specs.Told.{PortValue}
use Rattle.xp_board.specs.declared.step.Act.TheVariants.{Store}
use Rattle.xp_board.specs.declared.step.StepKind.TheVariants as kinds
use Rattle.xp_words.specs.KindWords.{kind_write}
use Rattle.xp_words.specs.declared.place.Place.TheVariants.{Kind}
use Rattle.step_maker.specs.Moves.{Moves}
use Rattle.kind_words.specs.Kinds.{partial_kind}
use Rattle.partial_state.specs.Levels.{level_type}
use Rattle.table_entries.proofs.HandLists.{asks_below}
use Rattle.foreign_map.specs.declared.owners.Owners.{Owners}
use Rattle.entry_exchange.specs.Course as course
use Rattle.entry_exchange.specs.Course.{Exchanged, GaveDemand, LeftLock, TookDemand, TookNew, new_demand}
use Rattle.entry_exchange.specs.Holding.{owner_at}
use Rattle.entry_exchange.specs.Words.{word_kept}
use Rattle.mmu_update.specs.Course.{entry_update}

-- two levels of one type are one, or both are so high that nothing tells them apart
pub same_level : (l k : ℕ) → level_type l ≡ level_type k → (l ≡ k) ⊎ ((m : ℕ) × (j : ℕ) × (l ≡ suc (suc (suc (suc m)))) × (k ≡ suc (suc (suc (suc j)))))
same_level zero zero e = inl refl
same_level zero (suc zero) e = absurd cc
same_level zero (suc (suc zero)) e = absurd cc
same_level zero (suc (suc (suc zero))) e = absurd cc
same_level zero (suc (suc (suc (suc j)))) e = absurd cc
same_level (suc zero) zero e = absurd cc
same_level (suc zero) (suc zero) e = inl refl
same_level (suc zero) (suc (suc zero)) e = absurd cc
same_level (suc zero) (suc (suc (suc zero))) e = absurd cc
same_level (suc zero) (suc (suc (suc (suc j)))) e = absurd cc
same_level (suc (suc zero)) zero e = absurd cc
same_level (suc (suc zero)) (suc zero) e = absurd cc
same_level (suc (suc zero)) (suc (suc zero)) e = inl refl
same_level (suc (suc zero)) (suc (suc (suc zero))) e = absurd cc
same_level (suc (suc zero)) (suc (suc (suc (suc j)))) e = absurd cc
same_level (suc (suc (suc zero))) zero e = absurd cc
same_level (suc (suc (suc zero))) (suc zero) e = absurd cc
same_level (suc (suc (suc zero))) (suc (suc zero)) e = absurd cc
same_level (suc (suc (suc zero))) (suc (suc (suc zero))) e = inl refl
same_level (suc (suc (suc zero))) (suc (suc (suc (suc j)))) e = absurd cc
same_level (suc (suc (suc (suc m)))) zero e = absurd cc
same_level (suc (suc (suc (suc m)))) (suc zero) e = absurd cc
same_level (suc (suc (suc (suc m)))) (suc (suc zero)) e = absurd cc
same_level (suc (suc (suc (suc m)))) (suc (suc (suc zero))) e = absurd cc
same_level (suc (suc (suc (suc m)))) (suc (suc (suc (suc j)))) e = inr (m, j, refl, refl)

-- no entry asks a table of level 4
no_top : (i w g : ℕ) → demand_at types.L4 i w ≡ demands.Typed g types.L4 → ⊥
no_top i w g e = let s = asks_below types.L4 i w g types.L4 e in cc

abbrev pub top : ℕ → ℕ
top m = suc (suc (suc (suc m)))

module _ (m : ℕ) where
  top_lock : {v w : PortValue} {f : ℕ} → LeftLock v f (top m) w → LeftLock v f 4 w
  top_lock (course.LeftLock.shared u w p q) = course.LeftLock.shared u w p q
  top_lock (course.LeftLock.last u y w found p q r) = course.LeftLock.last u y w found p q r

  below_top : (g : ℕ) → demands.Typed g (level_type (top (suc m) - 1)) ≡ demands.Typed g types.L4
  below_top g = let e : top (suc m) - 1 ≡ top m = omega arith in ap (λ z. demands.Typed g (level_type z)) e

  owner_top : (tables frames : ℕ) → owner_at (top (suc m)) tables frames ≡ tables
  owner_top tables frames = let e : (top (suc m) == 1) ≡ false = grind arith in ap (λ c. if c then frames else tables) e

  -- what is no table of level 4 is taken and given back in the same way
  top_took : {owner : ℕ} {v : PortValue} {d : Demand} {w : PortValue} {answers : List Bool} {a : Result (Unit {0}) Stop} → ((g : ℕ) → d ≡ demands.Typed g types.L4 → ⊥) → TookDemand owner (top (suc m)) v d w answers a →
      TookDemand owner 4 v d w answers a
  top_took apart course.TookDemand.nothing = course.TookDemand.nothing
  top_took apart (course.TookDemand.referred w g ref) = course.TookDemand.referred w g ref
  top_took apart (course.TookDemand.unreferred w g stop ref) = course.TookDemand.unreferred w g stop ref
  top_took apart (course.TookDemand.paged w g one page) = absurd (omega (arith, one))
  top_took apart (course.TookDemand.unpaged w g stop one page) = absurd (omega (arith, one))
  top_took apart (course.TookDemand.acquired w g answers two had) = absurd (apart g (below_top g))
  top_took apart (course.TookDemand.refused w g answers stop two had) = absurd (apart g (below_top g))

  top_gave : {owner : ℕ} {v : PortValue} {d : Demand} {w : PortValue} → ((g : ℕ) → d ≡ demands.Typed g types.L4 → ⊥) → GaveDemand owner (top (suc m)) v d w → GaveDemand owner 4 v d w
  top_gave apart course.GaveDemand.nothing = course.GaveDemand.nothing
  top_gave apart (course.GaveDemand.referred w g ref) = course.GaveDemand.referred w g ref
  top_gave apart (course.GaveDemand.paged w g one page) = absurd (omega (arith, one))
  top_gave apart (course.GaveDemand.shared u w g two drops gave) = absurd (apart g (below_top g))
  top_gave apart (course.GaveDemand.last u w g two drops kept) = absurd (apart g (below_top g))

module _ (f i word : ℕ) (keep : Bool) (o : Owners) where
  abbrev At : ℕ → PortValue → PortValue → List Bool → Result (Unit {0}) Stop → Type 0
  At level v w answers a = Exchanged v (entry_update f level i word keep) o w answers a

  taken : (m seen : ℕ) {v w : PortValue} {answers : List Bool} {a : Result (Unit {0}) Stop} → TookNew v w (entry_update f (top (suc m)) i word keep) o seen answers a → TookNew v w (entry_update f 4 i word keep) o seen answers a
  taken m seen {v} {w} {answers} {a} took =
      subst (λ z. TookDemand z 4 v (demand_at types.L4 i (word_kept keep seen word)) w answers a) (owner_top m o.tables o.frames) (top_took m (λ g e. no_top i (word_kept keep seen word) g e) took)

  given : (m seen : ℕ) {v w : PortValue} → GaveDemand (owner_at (top (suc m)) o.tables o.frames) (top (suc m)) v (new_demand (entry_update f (top (suc m)) i word keep) seen) w →
      GaveDemand o.tables 4 v (demand_at types.L4 i (word_kept keep seen word)) w
  given m seen {v} {w} gave = subst (λ z. GaveDemand z 4 v (demand_at types.L4 i (word_kept keep seen word)) w) (owner_top m o.tables o.frames) (top_gave m (λ g e. no_top i (word_kept keep seen word) g e) gave)

  top_by : (m : ℕ) {v w : PortValue} {answers : List Bool} {a : Result (Unit {0}) Stop} → At (top (suc m)) v w answers a → At 4 v w answers a
  top_by m (course.Exchanged.bad u w seen saw is left) = course.Exchanged.bad u w seen saw is (top_lock (suc m) left)
  top_by m (course.Exchanged.same u y w seen old saw is put left) = course.Exchanged.same u y w seen old saw is put (top_lock (suc m) left)
  top_by m (course.Exchanged.unput u y w seen stop saw is put left) = course.Exchanged.unput u y w seen stop saw is put (top_lock (suc m) left)
  top_by m (course.Exchanged.untaken u y w seen answers stop saw off took left) =
      course.Exchanged.untaken u y w seen answers stop saw off (taken m seen took) (top_lock (suc m) left)
  top_by m (course.Exchanged.lost u y z a w seen answers stop saw off took put gave left) =
      course.Exchanged.lost u y z a w seen answers stop saw off (taken m seen took) put (given m seen gave) (top_lock (suc m) left)
  top_by m (course.Exchanged.done u y z a w seen old answers more saw off took put left gone) =
      course.Exchanged.done u y z a w seen old answers more saw off (taken m seen took) put (top_lock (suc m) left) gone

  pub at_top : (m : ℕ) {v w : PortValue} {answers : List Bool} {a : Result (Unit {0}) Stop} → At (top m) v w answers a → At 4 v w answers a
  at_top zero p = p
  at_top (suc m) p = top_by m p

-- an exchange on a table of one level is one on a table of another level of the same type
pub lock_at : {v w : PortValue} {f : ℕ} (l k : ℕ) → level_type l ≡ level_type k → LeftLock v f l w → LeftLock v f k w
lock_at l k e (course.LeftLock.shared u w p q) = course.LeftLock.shared u w p q
lock_at {f = f} l k e (course.LeftLock.last u y w found p q r) = course.LeftLock.last u y w found p (subst (λ t. Moves u y (Kind f) (Store (kind_write (partial_kind t false false 512 0))) kinds.Kind None found) e q) r
