-- A frame that is given back: the steps serve that, and show why it stops.
use Rattle.std.proofs.Common.{◌≡◌, ℕ, ◌==◌, Bool, List, [], ◌∷◌, None, refl, sym, subst}
use Rattle.xp_words.specs.declared.place.Place.TheVariants.{Refs}
use Rattle.xp_board.specs.Told.{PortValue}
use Rattle.xp_board.specs.declared.step.Act.TheVariants.{Load}
use Rattle.xp_board.specs.declared.step.StepKind.TheVariants as kinds
use Rattle.xp_board.proofs.Sums.{when_eq}
use Rattle.step_maker.specs.Moves.{Met, Moves}
use Rattle.step_maker.specs.Answers.{Deed, Serves}
use Rattle.step_maker.specs.Asked.{IsAsked, Request, back, of_back}
use Rattle.step_maker.specs.Finding.{Finding}
use Rattle.step_maker.proofs.Piecing.{serves_back, serves_step, serves_within, within_back}
use Rattle.table_entries.specs.Asking.{of_entries}
use Rattle.partial_state.specs.declared.stack.TableWork.{TableWork}
use Rattle.level_release.specs.Asking.{IsReleasePiece}

-- ---- a release
module _ (v : PortValue) (f owner pages : ℕ) (rose : Bool) where
  abbrev request : Request
  request = record (of_entries owner pages) { backs = λ g. g == f; rose = rose }

  asks_back : (F : Finding) → IsAsked v.post.machine v.post.vcpu request F f
  asks_back F = back (when_eq f f refl)

  pub back_serves : (w : PortValue) (ds : List Deed) → Serves v w (of_back f) ds → Serves v w request ds
  back_serves w ds a = serves_within v w (of_back f) request ds (within_back v.post.machine v.post.vcpu f request (Met v w) (Met v w) (λ m y. y) (asks_back (Met v w))) a

  -- the type count, and then the reference
  pub both_serve : (a w : PortValue) → Serves v a (of_back f) [] → Serves a w (of_back f) [] → Serves v w request []
  both_serve a w drop put = serves_back v a w request [] [] (back_serves a [] drop) f (asks_back (Met v w)) put

  -- the type count was the last: the table is emptied behind a look at its reference word
  pub closed_piece : {a x : PortValue} {word : ℕ} {t : TableWork} → t.frame ≡ f → Serves v a (of_back f) [] → Moves a x (Refs f) Load kinds.Look None word → IsReleasePiece v x request (t ∷ []) []
  closed_piece {a} {x} {word} same drop look =
      record {
        entries = refl;
        serves = serves_step v a x request [] (Refs f) Load kinds.Look None word (back_serves a [] drop) look tt;
        asked = (subst (λ g. IsAsked v.post.machine v.post.vcpu request (Met v x) g) (sym same) (asks_back (Met v x)), tt);
      }
