-- The course of one entry that is given back, or of one table that is left.
use Rattle.std.proofs.Common.{◌≡◌, ℕ, ◌-◌, ◌<◌, Bool, true, false, List, ◌∷◌, Result, Ok, Err, refl, sym, ap, ◌∙◌, subst, arith}
use Rattle.xp_words.specs.declared.kind.PageType.{PageType}
use Rattle.xp_words.specs.declared.reply.Stop.{Stop}
use Rattle.xp_board.specs.Told.{PortValue}
use Rattle.partial_state.specs.Levels.{level_type}
use Rattle.partial_state.specs.Stacks.{IsStack, advanced}
use Rattle.partial_state.specs.declared.stack.TableWork.{TableWork}
use Rattle.table_releases.specs.Between.{ReleasesEntry}
use Rattle.table_releases.specs.declared.entries.Released.{Released}
use Rattle.table_releases.specs.declared.entries.Released.TheVariants.{Given, Opened}
use Rattle.level_release.specs.Course.{GaveEntry, Lowered, MadeDead, emptied, given, opened, stopped, table_under}

-- not all entries are done with
pub some_left : {t : TableWork} {rest ts : List TableWork} → ts ≡ t ∷ rest → IsStack ts → (t.done ≡ 512 → ⊥) → t.done < 512
some_left are stack more = grind (arith, ((subst (λ us. IsStack us) are stack).0.done), more)

-- ---- the last recorded entry of the innermost table
module _ (v w : PortValue) {t : TableWork} {rest ts : List TableWork} (are : ts ≡ t ∷ rest) {k : PageType} (is : k ≡ level_type t.level) (few : t.done < 512) where
  gave : {a b : Result Released Stop} → a ≡ b → ReleasesEntry v w t.frame (511 - t.done) k a → GaveEntry v w t b
  gave {a} so e = record { entry = subst (λ b. ReleasesEntry v w t.frame (511 - t.done) (level_type t.level) b) so (subst (λ y. ReleasesEntry v w t.frame (511 - t.done) y a) is e) }

  pub lowered_given : {a : Released} {us : List TableWork} → a ≡ Given → us ≡ advanced ts → ReleasesEntry v w t.frame (511 - t.done) k (Ok a) → Lowered v ts w us (Ok true)
  lowered_given {a} {us} so on e =
      subst (λ xs. Lowered v xs w us (Ok true)) (sym are) (subst (λ xs. Lowered v (t ∷ rest) w xs (Ok true)) (sym (on ∙ ap (λ xs. advanced xs) are)) (given v w t rest few (gave (ap (λ b. Ok b) so) e)))

  pub lowered_opened : {a : Released} {f recorded : ℕ} {closing : Bool} {us xs : List TableWork} → a ≡ Opened f recorded closing → us ≡ advanced ts → xs ≡ table_under t f recorded closing ∷ us →
      ReleasesEntry v w t.frame (511 - t.done) k (Ok a) → Lowered v ts w xs (Ok false)
  lowered_opened {a} {f} {recorded} {closing} {xs} so on pushed e =
      subst (λ ys. Lowered v ys w xs (Ok false)) (sym are) (subst (λ ys. Lowered v (t ∷ rest) w ys (Ok false))
      (sym (pushed ∙ ap (λ ys. table_under t f recorded closing ∷ ys) (on ∙ ap (λ ys. advanced ys) are))) (opened v w t rest f recorded closing few (gave (ap (λ b. Ok b) so) e)))

  pub lowered_stopped : {e : Stop} {answer : Result Bool Stop} → answer ≡ Err e → ReleasesEntry v w t.frame (511 - t.done) k (Err e) → Lowered v ts w ts answer
  lowered_stopped {e} so a = subst (λ y. Lowered v ts w ts y) (sym so) (subst (λ xs. Lowered v xs w xs (Err e)) (sym are) (stopped v w t rest e few (gave refl a)))

-- ---- the innermost table, of which nothing is recorded any more
pub lowered_emptied : {v w : PortValue} (t : TableWork) {us ts : List TableWork} → ts ≡ t ∷ us → t.done ≡ 512 → MadeDead v w t → Lowered v ts w us (Ok true)
lowered_emptied {v} {w} t {us} are all dead = subst (λ xs. Lowered v xs w us (Ok true)) (sym are) (emptied v w t us all dead)
