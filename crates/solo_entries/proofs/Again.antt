-- Of a write that goes on: the level of its table, and the table that its new word asks.
use Rattle.std.proofs.Common.{◌≡◌, ◌≤◌, ℕ, zero, suc, ◌-◌, Bool, List, Result, Ok, Err, refl, sym, ap, ◌∙◌, subst, arith}
use Rattle.xp_words.specs.PageTypes.{is_table, type_number}
use Rattle.xp_words.specs.declared.entry.Demand.{Demand}
use Rattle.xp_words.specs.declared.entry.Demand.TheVariants as demands
use Rattle.xp_words.specs.declared.reply.Pause.TheVariants.{Due}
use Rattle.xp_words.specs.declared.reply.Stop.{Stop}
use Rattle.xp_words.specs.declared.reply.Stop.TheVariants.{Paused}
use Rattle.xp_board.specs.Told.{PortValue}
use Rattle.entry_exchange.specs.Course as course
use Rattle.entry_exchange.specs.Course.{Exchanged, TookDemand}
use Rattle.foreign_map.specs.declared.owners.Owners.{Owners}
use Rattle.mmu_update.specs.Course.{entry_update}
use Rattle.partial_state.specs.Levels.{level_type}
use Rattle.partial_state.proofs.LevelFacts.{level_type-number, level_type-table}
use Rattle.table_entries.specs.Acquiring.{Acquired}
use Rattle.solo_entries.proofs.Capping.{above, capped}
use Rattle.solo_entries.proofs.Demanding.{as_demand}

-- ---- the level of a table by its type
level_by : (a level : ℕ) → 1 ≤ a → a ≤ 4 → level_type a ≡ level_type level → 1 ≤ level → level ≤ 4 → a ≡ level
level_by a level some few same low high = sym (level_type-number a some few) ∙ (ap type_number same ∙ level_type-number level low high)

no_table : (level : ℕ) → level_type 0 ≡ level_type level → 1 ≤ level → ⊥
no_table level same low = let e = ap is_table same ∙ level_type-table level low in absurd cc

four_by : (l level : ℕ) → level_type (above l) ≡ level_type level → 1 ≤ level → level ≤ 4 → 4 ≡ level
four_by l level same low high = ap type_number same ∙ level_type-number level low high

module _ (y : PortValue) (o : Owners) (f i word : ℕ) (keep : Bool) (level : ℕ) (low : 1 ≤ level) (high : level ≤ 4) (w : PortValue) (answers : List Bool) (r : Result (Unit {0}) Stop) where
  abbrev At : ℕ → Type 0
  At l = Exchanged y (entry_update f l i word keep) o w answers r

  pub at_level : (a : ℕ) → level_type a ≡ level_type level → Exchanged y (entry_update f a i word keep) o w answers r → Exchanged y (entry_update f level i word keep) o w answers r
  at_level zero same ex = absurd (no_table level same low)
  at_level (suc zero) same ex = subst At (level_by 1 level (omega arith) (omega arith) same low high) ex
  at_level (suc (suc zero)) same ex = subst At (level_by 2 level (omega arith) (omega arith) same low high) ex
  at_level (suc (suc (suc zero))) same ex = subst At (level_by 3 level (omega arith) (omega arith) same low high) ex
  at_level (suc (suc (suc (suc zero)))) same ex = subst At (level_by 4 level (omega arith) (omega arith) same low high) ex
  at_level (suc (suc (suc (suc (suc l))))) same ex = subst At (four_by l level same low high) (capped y f l i word keep o w answers r ex)

-- ---- what is asked is a table: that is acquired
pub record TookTable (c : PortValue) (g owner l : ℕ) (z : PortValue) (answers : List Bool) (r : Result (Unit {0}) Stop) : Type 0 where
  pub answer : Result ℕ Stop
  pub had : Acquired c g owner l z answers answer
  pub is : as_demand answer ≡ r

module _ (owner level : ℕ) (c : PortValue) (asked : ℕ) (two : 2 ≤ level) where
  pub took_table : (d : Demand) (z : PortValue) (answers : List Bool) (r : Result (Unit {0}) Stop) → TookDemand owner level c d z answers r → d ≡ demands.Typed asked (level_type (level - 1)) → TookTable c asked owner (level - 1) z answers r
  took_table _ _ _ _ course.nothing is = absurd cc
  took_table _ _ _ _ (course.referred z g ref) is = absurd cc
  took_table _ _ _ _ (course.unreferred z g stop ref) is = absurd cc
  took_table _ _ _ _ (course.paged z g one page) is = absurd (omega (arith, one, two))
  took_table _ _ _ _ (course.unpaged z g stop one page) is = absurd (omega (arith, one, two))
  took_table _ _ _ _ (course.acquired z g answers two had) is =
      let e : g ≡ asked = cc in
      record { answer = Ok g; had = subst (λ h. Acquired c h owner (level - 1) z answers (Ok g)) e had; is = refl }
  took_table _ _ _ _ (course.refused z g answers stop two had) is =
      let e : g ≡ asked = cc in
      record { answer = Err stop; had = subst (λ h. Acquired c h owner (level - 1) z answers (Err stop)) e had; is = refl }

pub due_as : (e : Result ℕ Stop) → e ≡ Err (Paused Due) → as_demand e ≡ Err (Paused Due)
due_as e is = ap as_demand is
