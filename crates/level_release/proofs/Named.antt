-- An old word that names a frame is taken, and the frame asked by it: the steps serve that.
use Rattle.std.proofs.Common.{◌≡◌, ◌≢◌, ◌⊎◌, ℕ, ◌+◌, Bool, false, List, [], ◌++◌, Option, None, Some, IsTrue, refl, subst, arith, inl, inr}
use Rattle.xp_words.specs.KindWords.{kind_fields}
use Rattle.xp_words.specs.declared.kind.PageType.{PageType}
use Rattle.xp_words.specs.declared.place.Place.TheVariants.{Kind, Vcpu}
use Rattle.xp_board.specs.Readings.{domain_of, is_context, is_dead}
use Rattle.xp_board.specs.Told.{Post, PortValue}
use Rattle.xp_board.specs.declared.holdings.Holdings.{Holdings}
use Rattle.xp_board.specs.declared.step.Act.TheVariants.{Load, Store}
use Rattle.xp_board.specs.declared.step.StepKind.TheVariants as kinds
use Rattle.xp_board.proofs.Sums.{when_eq}
use Rattle.step_maker.specs.Moves.{Came, Met, Moves}
use Rattle.step_maker.proofs.Coming.{came_post, came_trans, moves_came}
use Rattle.step_maker.specs.Answers.{Deed, Serves, stored}
use Rattle.step_maker.specs.Asked.{Asked, IsAsked, IsFor, Passed, Request, of, of_old, old}
use Rattle.step_maker.specs.Finding.{FoundAt}
use Rattle.step_maker.proofs.Changing.{found_after, found_before, moves_found}
use Rattle.step_maker.proofs.Piecing.{moves_serves, serves_step}
use Rattle.table_words.specs.OldWords.{old_number, old_place}
use Rattle.table_words.specs.declared.old_words.OldWord.{OldWord}
use Rattle.table_words.specs.declared.old_words.OldWord.TheVariants.{First, Second}
use Rattle.level_release.specs.Settling.{TookOld}
use Rattle.level_release.proofs.Asking.{settling}
use Rattle.level_release.proofs.Counted.{undead}
use Rattle.level_release.proofs.Taken.{taken_held}

-- ---- the two words
is_old : (which : OldWord) → (old_number which ≡ 2) ⊎ (old_number which ≡ 3)
is_old First = inl refl
is_old Second = inr refl

pub not_flushed : (which : OldWord) → old_number which ≢ 5
not_flushed First = λ e. omega (arith, e)
not_flushed Second = λ e. omega (arith, e)

-- no guest sees them
untold : (which : OldWord) (s w : ℕ) (h : Holdings) → stored (old_place s which) w h ≡ []
untold First s w h = refl
untold Second s w h = refl

-- an old word is stored: the own one
pub old_serves : (u : PortValue) {x w : PortValue} (owner pages : ℕ) (rose : Bool) (which : OldWord) {new found : ℕ} (ds : List Deed) → Serves u x (settling owner pages rose) ds → Came u x → Moves x w (old_place u.post.vcpu which) (Store new) kinds.Context None found →
    Serves u w (settling owner pages rose) ds
old_serves u {x} {w} owner pages rose which {new} {found} ds before came store =
    subst (λ es. Serves u w (settling owner pages rose) (es ++ ds)) (untold which u.post.vcpu new x.holdings)
    (serves_step u x w (settling owner pages rose) ds (old_place u.post.vcpu which) (Store new) kinds.Context None found before store (inl (refl, inl (not_flushed which))))

module _ {u v : PortValue} {which : OldWord} {f word : ℕ} (t : TookOld u v which f word) (owner pages : ℕ) (rose : Bool) where
  abbrev request : Request
  request = settling owner pages rose

  came_a : Came u t.a
  came_a = moves_came u t.a (old_place u.post.vcpu which) Load kinds.Look None (f + 1) t.look

  came_b : Came t.a t.b
  came_b = moves_came t.a t.b (old_place u.post.vcpu which) (Store 0) kinds.Context None (f + 1) t.take

  came_v : Came t.b v
  came_v = moves_came t.b v (Kind f) Load kinds.Look None word t.kind

  pub taken_came : Came u t.b
  taken_came = came_trans u t.a t.b came_a came_b

  pub took_came : Came u v
  took_came = came_trans u t.b v taken_came came_v

  pub took_serves : Serves u v request []
  took_serves =
      serves_step u t.b v request [] (Kind f) Load kinds.Look None word (old_serves u owner pages rose which []
      (moves_serves u t.a request (old_place u.post.vcpu which) Load kinds.Look None (f + 1) t.look tt) came_a t.take) t.kind tt

  -- ---- the frame is asked
  alive : is_dead (kind_fields word) ≡ false
  alive = undead t.kind.finds (taken_held t)

  module _ (w : PortValue) (came : Came v w) where
    found_old : FoundAt (Met u w) (Vcpu u.post.vcpu (old_number which)) (f + 1)
    found_old =
        found_before u t.a w (old_place u.post.vcpu which) (f + 1) (came_trans t.a t.b w came_b (came_trans t.b v w came_v came))
        (moves_found u t.a (old_place u.post.vcpu which) Load kinds.Look None (f + 1) t.look)

    found_kind : FoundAt (Met u w) (Kind f) word
    found_kind = found_after u t.b w (Kind f) word taken_came (found_before t.b v w (Kind f) word came (moves_found t.b v (Kind f) Load kinds.Look None word t.kind))

    pub names_it : (want : Option PageType) → IsFor want (Some (kind_fields word).kind) → Asked u.post.machine u.post.vcpu request (Met u w) f (domain_of u.post.machine u.post.vcpu) want
    names_it want for =
        of_old u.post.vcpu (old_number which) (f + 1) word refl found_old (is_old which) (when_eq (f + 1) (f + 1) refl) (inl refl) found_kind (rw alive refl) refl for

    pub asks_it : IsAsked u.post.machine u.post.vcpu request (Met u w) f
    asks_it = of (domain_of u.post.machine u.post.vcpu) None (names_it None tt)

    pub passed_it : (h : Holdings) → Passed u.post.machine request (Met u w) f (domain_of u.post.machine u.post.vcpu) h
    passed_it h = old u.post.vcpu (old_number which) (f + 1) refl found_old (elim which as (λ y. IsTrue (is_context (old_number y))) [ First ↦ refl | Second ↦ refl ]) (when_eq (f + 1) (f + 1) refl)

  -- the first word names the frame again
  pub again_serves : {x w : PortValue} (ds : List Deed) → Serves u x request ds → Came u x → Moves x w (old_place x.post.vcpu First) (Store (f + 1)) kinds.Context None 0 → Serves u w request ds
  again_serves {x} {w} ds before came store =
      old_serves u owner pages rose First ds before came (subst (λ (p : Post). Moves x w (old_place p.vcpu First) (Store (f + 1)) kinds.Context None 0) (came_post u x came) store)
