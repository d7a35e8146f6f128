-- What is asked of a frame as ordinary memory, from what is asked of it for a type: the steps serve it, and it stops for the same.
use Rattle.std.proofs.Common.{◌≡◌, ◌≢◌, ◌⊎◌, ℕ, ◌==◌, not, List, [], ◌∷◌, ◌++◌, Option, Some, Err, refl, sym, ap, subst, inl, inr}
use Rattle.xp_words.specs.declared.kind.PageType.{PageType}
use Rattle.xp_words.specs.declared.kind.PageType.TheVariants.{Writable}
use Rattle.xp_words.specs.declared.place.Place.TheVariants.{Kind}
use Rattle.xp_words.specs.declared.reply.Pause.{Pause}
use Rattle.xp_words.specs.declared.reply.Stop.{Stop}
use Rattle.xp_words.specs.declared.reply.Stop.TheVariants.{Paused}
use Rattle.xp_words.proofs.Shared.{eq_false as when_ne}
use Rattle.xp_board.specs.Readings.{domain_of}
use Rattle.xp_board.specs.Told.{Post, PortValue}
use Rattle.xp_board.proofs.Sums.{when_eq}
use Rattle.step_maker.specs.Moves.{Came, Met}
use Rattle.step_maker.proofs.Coming.{came_post}
use Rattle.step_maker.specs.Answers.{Deed, Misses, Serves, Stops}
use Rattle.step_maker.specs.Asked.{IsAsked, IsFor, Within, named, of, of_frame}
use Rattle.step_maker.proofs.Piecing.{serves_came, serves_within, stops_within, within_frame}
use Rattle.flush_waits.specs.Waiting.{IsWait}
use Rattle.flush_waits.proofs.Shared.{wait_missed as none_missed}
use Rattle.kept_marks.specs.Marks.{IsForeign, ServesKept, ServesMark}
use Rattle.writable_pages.specs.Pages.{HidesMark, ServesPage, of_page}

-- ---- requests
pub same_page : (v u : PortValue) (f owner : ℕ) → Came v u → of_page u f owner ≡ of_page v f owner
same_page v u f owner came = ap (λ (q : Post). record (of_frame f owner (Some Writable)) { locks = not (owner == domain_of q.machine q.vcpu) }) (came_post v u came)

page_asked : (v w p : PortValue) (f owner : ℕ) → IsAsked v.post.machine v.post.vcpu (of_page p f owner) (Met v w) f
page_asked v w p f owner = of owner (Some Writable) (named (when_eq f f refl) refl refl)

module _ (v w p : PortValue) (f owner : ℕ) (want : Option PageType) (for : IsFor want (Some Writable)) where
  page_within : Within v.post.machine v.post.vcpu (of_frame f owner want) (Met v w) (of_page p f owner) (Met v w)
  page_within = within_frame v.post.machine v.post.vcpu f owner want (of_page p f owner) (Met v w) (Met v w) (λ m x. x) (named (when_eq f f refl) refl for)

  pub page_serves : (ds : List Deed) → Serves v w (of_frame f owner want) ds → Serves v w (of_page p f owner) ds
  page_serves ds a = serves_within v w (of_frame f owner want) (of_page p f owner) ds page_within a

  pub page_stops : (e : Stop) → Stops v w (of_frame f owner want) e → Stops v w (of_page p f owner) e
  page_stops e a = stops_within v w (of_frame f owner want) (of_page p f owner) e page_within a

-- ---- a frame that waits was left
-- no exchange was lost
pub plain_serves : (v w : PortValue) (f owner : ℕ) (stop : Stop) → IsWait stop → Serves v w (of_frame f owner (Some Writable)) [] → ServesPage {A = Unit {0}} v w f owner (Err stop)
plain_serves v w f owner stop wait serves =
    record {
      hidden = [];
      may = inl refl;
      serves = subst (λ ds. Serves v w (of_page v f owner) ds) (sym (none_missed v.post.machine stop wait)) (page_serves v w v f owner (Some Writable) refl [] serves);
    }

-- with its mark
module _ (u v w : PortValue) (f owner : ℕ) (stop : Stop) (x : Pause) (paused : stop ≡ Paused x) (wait : IsWait stop) (kept : ServesKept v w f owner) (before : Serves u v (of_frame f owner (Some Writable)) []) where
  mark_served : ServesMark u w (of_page u f owner) f owner []
  mark_served =
      kept u (of_page u f owner) [] (page_serves u v u f owner (Some Writable) refl [] before) (page_asked u v u f owner)
      (λ foreign. ap not (when_ne owner (domain_of u.post.machine u.post.vcpu) (subst (λ (q : Post). owner ≢ domain_of q.machine q.vcpu) (came_post u v (serves_came u v (of_frame f owner (Some Writable)) [] before)) foreign)))

  hides : (more : List Deed) → (more ≡ []) ⊎ (IsForeign u owner × (more ≡ Misses (Kind f) ∷ [])) → (more ≡ []) ⊎ (HidesMark {A = Unit {0}} u owner (Err stop) × (more ≡ Misses (Kind f) ∷ []))
  hides more (inl a) = inl a
  hides more (inr a) = inr (subst (λ e. HidesMark {A = Unit {0}} u owner (Err e)) (sym paused) a.0, a.1)

  pub kept_serves : ServesPage {A = Unit {0}} u w f owner (Err stop)
  kept_serves =
      record {
        hidden = mark_served.more;
        may = hides mark_served.more mark_served.hidden;
        serves = subst (λ ds. Serves u w (of_page u f owner) (mark_served.more ++ ds)) (sym (none_missed u.post.machine stop wait)) mark_served.serves;
      }
