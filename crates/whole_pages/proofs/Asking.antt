-- A frame of the own domain is taken as ordinary memory: what is asked of it, and what a guest sees of a call that stops.
use Rattle.std.proofs.Common.{◌≡◌, ◌⊎◌, ℕ, ◌==◌, not, List, [], ◌∷◌, ◌++◌, Some, None, Result, Ok, Err, IsTrue, refl, ap, subst, inl, inr}
use Rattle.xp_words.specs.declared.kind.PageType.TheVariants.{Writable}
use Rattle.xp_words.specs.declared.place.Place.TheVariants.{Kind}
use Rattle.xp_words.specs.declared.reply.Stop.{Stop}
use Rattle.xp_words.specs.declared.reply.Stop.TheVariants.{Refused, Paused}
use Rattle.xp_words.specs.Machine.{Machine}
use Rattle.xp_board.specs.Readings.{domain_of}
use Rattle.xp_board.specs.Told.{PortValue}
use Rattle.xp_board.proofs.Sums.{when_eq}
use Rattle.step_maker.specs.Holds.{FlushedSame}
use Rattle.step_maker.specs.Answers.{Deed, Misses, Serves, Stops, misses}
use Rattle.step_maker.specs.Asked.{Asked, IsAsked, Within, named, of, of_frame}
use Rattle.step_maker.specs.Finding.{Finding}
use Rattle.step_maker.proofs.Piecing.{within_frame}
use Rattle.writable_pages.specs.Pages.{HidesMark, LeavesGot, ServesPage, of_page}
use Rattle.whole_pages.specs.Whole.{of_copy}
use Rattle.frame_types.proofs.Left.{or_true}

module _ (v : PortValue) (f d : ℕ) (own : d ≡ domain_of v.post.machine v.post.vcpu) where
  own_page : of_page v f d ≡ of_frame f d (Some Writable)
  own_page = ap (λ b. record (of_frame f d (Some Writable)) { locks = not b }) (when_eq d (domain_of v.post.machine v.post.vcpu) own)

  no_mark : (answer : Result ℕ Stop) → HidesMark v d answer → ⊥
  no_mark (Ok g) mark = mark
  no_mark (Err (Refused x)) mark = mark
  no_mark (Err (Paused x)) mark = mark own

  module _ (w : PortValue) (answer : Result ℕ Stop) where
    no_hidden : (ds : List Deed) → (ds ≡ []) ⊎ (HidesMark v d answer × (ds ≡ Misses (Kind f) ∷ [])) → ds ≡ []
    no_hidden ds (inl none) = none
    no_hidden ds (inr one) = absurd (no_mark answer one.0)

    pub own_serves : ServesPage v w f d answer → Serves v w (of_frame f d (Some Writable)) (misses v.post.machine answer)
    own_serves page =
        subst (λ r. Serves v w r (misses v.post.machine answer)) own_page (subst (λ ds. Serves v w (of_page v f d) (ds ++ misses v.post.machine answer)) (no_hidden page.hidden page.may) page.serves)

  pub own_stops : (w : PortValue) (e : Stop) → Stops v w (of_page v f d) e → Stops v w (of_frame f d (Some Writable)) e
  own_stops w e a = subst (λ r. Stops v w r e) own_page a

  pub own_leaves : (w : PortValue) (e : Stop) → LeavesGot v w f d (Err e) → FlushedSame v w
  own_leaves w (Refused x) a = a
  own_leaves w (Paused x) (inl a) = a
  own_leaves w (Paused x) (inr a) = absurd (a.0 own)

-- ---- a copy names both frames

module _ (d to from : ℕ) where
  pub names_target : IsTrue ((of_copy d to from).names to)
  names_target = rw (when_eq to to refl) refl

  pub names_source : IsTrue ((of_copy d to from).names from)
  names_source = rw (when_eq from from refl) (or_true (from == to))

  module _ (n : Machine) (s : ℕ) (F : Finding) where
    pub asks_source : Asked n s (of_copy d to from) F from d None
    asks_source = named names_source refl tt

    pub asked_target : IsAsked n s (of_copy d to from) F to
    asked_target = of d None (named names_target refl tt)

    pub asked_source : IsAsked n s (of_copy d to from) F from
    asked_source = of d None asks_source

    pub within_copy : Within n s (of_frame to d (Some Writable)) F (of_copy d to from) F
    within_copy = within_frame n s to d (Some Writable) (of_copy d to from) F F (λ m a. a) (named names_target refl refl)
