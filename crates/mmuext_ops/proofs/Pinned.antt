-- A pin: its calls one behind the other, what is in hand behind each, and why it is not done.
use Rattle.std.proofs.Common.{◌≡◌, ◌⊎◌, ℕ, ◌+◌, Bool, true, false, not, List, [], ◌∷◌, ◌++◌, Some, None, Result, Ok, Err, IfErr, refl, sym, ap, ◌∙◌, subst, append-nil, inl, inr}
use Rattle.xp_words.specs.declared.kind.KindWord.{KindWord}
use Rattle.xp_words.specs.declared.place.Place.TheVariants.{Kind}
use Rattle.xp_words.specs.declared.reply.Pause.TheVariants as pauses
use Rattle.xp_words.specs.declared.reply.Refusal.TheVariants.{AlreadyPinned}
use Rattle.xp_words.specs.declared.reply.Stop.{Stop}
use Rattle.xp_words.specs.declared.reply.Stop.TheVariants.{Paused, Refused}
use Rattle.xp_board.specs.declared.holdings.OwnerFound.TheVariants as owners
use Rattle.xp_board.specs.declared.holdings.TypedReference.{TypedReference}
use Rattle.xp_board.specs.KindSteps.{live_typed}
use Rattle.xp_board.specs.Readings.{domain_of}
use Rattle.xp_board.specs.Told.{Post, PortValue}
use Rattle.xp_board.proofs.Sums.{when_eq}
use Rattle.step_maker.specs.Holds.{FlushedHolds, Holds, Rests, Same, quiet}
use Rattle.step_maker.specs.Moves.{Came, Met}
use Rattle.step_maker.proofs.Coming.{came_post, met_after}
use Rattle.step_maker.specs.Answers.{Misses, Serves, Stops, misses}
use Rattle.step_maker.specs.Asked.{Asked, Within, checked, named, of_table}
use Rattle.step_maker.specs.Finding.{Finding}
use Rattle.step_maker.proofs.Later.{IsUncounted, stops_then}
use Rattle.step_maker.proofs.Piecing.{serves_came, serves_inner, serves_then, stops_inner}
use Rattle.step_maker.proofs.Resting.{bare, empty_as}
use Rattle.partial_state.specs.Levels.{level_type}
use Rattle.kept_marks.specs.Marks.{IsForeign}
use Rattle.level_validate.specs.Acquiring.{LeavesAcquired, ServesAcquired, of_acquire}
use Rattle.level_validate.specs.Acquiring as acquires
use Rattle.level_validate.specs.Unwinding.{own_domain}
use Rattle.level_release.specs.Asking.{is_due_answer}
use Rattle.mmuext_ops.specs.Elements.{HasDeeds, LeavesElement, ServesElement, of_pin}
use Rattle.mmuext_ops.specs.Holding.{HoldsTable, IsPinEnd, LeavesTable, ServesLive, named_old, untyped_hand}
use Rattle.mmuext_ops.specs.declared.element.Element.TheVariants.{Pin}
use Rattle.mmuext_ops.proofs.Looked.{Looked, fields, found_with, owner_known}
use Rattle.mmuext_ops.proofs.Within.{same_no_more, within_table}

module _ (v : PortValue) (f d level : ℕ) (rose : Bool) where
  pub asks : (F : Finding) → Asked v.post.machine v.post.vcpu (of_pin d f level rose) F f d None
  asks F = named (when_eq f f refl) refl tt

  asks_type : (F : Finding) → Asked v.post.machine v.post.vcpu (of_pin d f level rose) F f d (Some (level_type level))
  asks_type F = named (when_eq f f refl) refl refl

  -- ---- it was looked at, and is pinned with the type of that level
  pub before_stops : {a b : PortValue} {g x : ℕ} {k : KindWord} → Looked v a b f d g x k → (c : PortValue) → Came b c → k.pinned ≡ true → k.kind ≡ level_type level → Stops v c (of_pin d f level rose) (Refused (AlreadyPinned x))
  unfolding Stops
  before_stops {a} saw c after on kind =
      (f, d, level_type level, a.holdings, asks_type (Met v c), found_with saw c after, checked (owner_known saw), refl, when_eq f f refl, ap (λ (y : KindWord). y.pinned) (fields saw) ∙ on, ap (λ (y : KindWord). y.kind) (fields saw) ∙ kind)

  -- ---- behind a piece that left nothing in hand it is acquired
  module _ (c : PortValue) (before : Serves v c (of_pin d f level rose) []) where
    came_c : Came v c
    came_c = serves_came v c (of_pin d f level rose) [] before

    module _ (e : PortValue) (answer : Result ℕ Stop) (rises : acquires.is_due_answer answer ≡ true → rose ≡ true) where
      acquiring : Within v.post.machine v.post.vcpu (of_table f d (Some (level_type level)) d (acquires.is_due_answer answer)) (Met c e) (of_pin d f level rose) (Met v e)
      acquiring = within_table v.post.machine v.post.vcpu f d level (level_type level) (acquires.is_due_answer answer) rose (Met c e) (Met v e) (λ m x. met_after v c e m came_c x) rises

      -- the frame is the own domain's: no mark of it is taken back
      module _ (home : d ≡ own_domain v) where
        there : d ≡ own_domain c
        there = home ∙ ap (λ (p : Post). domain_of p.machine p.vcpu) (sym (came_post v c came_c))

        request : of_acquire c f d level d answer ≡ of_table f d (Some (level_type level)) d (acquires.is_due_answer answer)
        request = ap (λ b. record (of_table f d (Some (level_type level)) d (acquires.is_due_answer answer)) { locks = not b }) (when_eq d (own_domain c) there)

        seen : ServesAcquired c e f d level d answer → Serves c e (of_table f d (Some (level_type level)) d (acquires.is_due_answer answer)) (misses c.post.machine answer)
        seen a = subst (λ r. Serves c e r (misses c.post.machine answer)) request (shown a.may)
          where
            shown : (a.hidden ≡ []) ⊎ (IsForeign c d × (acquires.is_paused_answer answer ≡ true) × (a.hidden ≡ Misses (Kind f) ∷ [])) → Serves c e (of_acquire c f d level d answer) (misses c.post.machine answer)
            shown (inl none) = subst (λ ds. Serves c e (of_acquire c f d level d answer) (ds ++ misses c.post.machine answer)) none a.serves
            shown (inr foreign) = absurd (foreign.0 there)

        pub acquired_serves : ServesAcquired c e f d level d answer → Serves v e (of_pin d f level rose) (misses v.post.machine answer)
        acquired_serves a =
            let r = of_table f d (Some (level_type level)) d (acquires.is_due_answer answer) in
            subst (λ ds. Serves v e (of_pin d f level rose) ds) (append-nil (misses v.post.machine answer))
            (serves_inner v c e (of_pin d f level rose) r [] (misses v.post.machine answer) acquiring before
            (subst (λ (p : Post). Serves c e r (misses p.machine answer)) (came_post v c came_c) (seen a)))

        pub unacquired_stops : Same v c → (stop : Stop) → Stops c e (of_acquire c f d level d answer) stop → Stops v e (of_pin d f level rose) stop
        unacquired_stops same stop a =
            let r = of_table f d (Some (level_type level)) d (acquires.is_due_answer answer) in
            stops_inner v c e (of_pin d f level rose) r stop acquiring (same_no_more v c (of_pin d f level rose) refl same) came_c (subst (λ q. Stops c e q stop) request a)

-- ---- the table is live
pub pin_undue : (answer : Result (Unit {0}) Stop) → IfErr answer IsPinEnd → is_due_answer answer ≡ false
pin_undue (Ok done) kind = refl
pin_undue (Err (Refused x)) kind = refl
pin_undue (Err (Paused (pauses.Lost place expected found))) kind = refl
pin_undue (Err (Paused pauses.Due)) kind = absurd kind
pin_undue (Err (Paused (pauses.Busy f found))) kind = absurd kind
pin_undue (Err (Paused (pauses.Flush vcpu stamp found))) kind = absurd kind
pin_undue (Err (Paused (pauses.Alive vcpu found))) kind = absurd kind

pin_uncounted : (stop : Stop) → IsPinEnd stop → IsUncounted stop
pin_uncounted (Refused (AlreadyPinned x)) kind = tt
pin_uncounted (Refused _) kind = absurd kind
pin_uncounted (Paused x) kind = tt

module _ (v e w : PortValue) (f d level g : ℕ) (at : g ≡ f) (own : d ≡ own_domain v) (before : Serves v e (of_pin d f level false) []) (answer : Result (Unit {0}) Stop) (kind : IfErr answer IsPinEnd) where
  came_e : Came v e
  came_e = serves_came v e (of_pin d f level false) [] before

  post_e : e.post ≡ v.post
  post_e = came_post v e came_e

  own_e : own_domain e ≡ d
  own_e = ap (λ (p : Post). domain_of p.machine p.vcpu) post_e ∙ sym own

  pub live_serves : ServesLive e w g level answer → ServesElement v w d (Pin f level) None answer
  live_serves (ds, deeds, a) =
      let ends : Serves e w (of_pin d f level false) ds = subst (λ k. Serves e w (of_pin d k level false) ds) at (subst (λ o. Serves e w (of_pin o g level false) ds) own_e a) in (
        ds,
        subst (λ (p : Post). HasDeeds p.machine p.vcpu (Pin f level) answer ds) post_e (subst (λ k. HasDeeds e.post.machine e.post.vcpu (Pin k level) answer ds) at deeds),
        subst (λ b. Serves v w (of_pin d f level b) ds) (sym (pin_undue answer kind)) (subst (λ es. Serves v w (of_pin d f level false) es) (append-nil ds) (serves_then v e w (of_pin d f level false) [] ds before ends)),
      )

  live_why : (stop : Stop) → IsPinEnd stop → Stops e w (of_pin (own_domain e) g level false) stop → Stops v w (of_pin d f level false) stop
  live_why stop end a =
      stops_then v e w (of_pin d f level false) stop (pin_uncounted stop end) came_e
      (subst (λ k. Stops e w (of_pin d k level false) stop) at (subst (λ o. Stops e w (of_pin o g level false) stop) own_e a))

  pub live_stops : IfErr answer (λ k. Stops e w (of_pin (own_domain e) g level false) k) → IfErr answer (λ k. Stops v w (of_pin d f level (is_due_answer answer)) k)
  live_stops a = subst (λ b. IfErr answer (λ k. Stops v w (of_pin d f level b) k)) (sym (pin_undue answer kind)) (each answer kind a)
    where
      each : (y : Result (Unit {0}) Stop) → IfErr y IsPinEnd → IfErr y (λ k. Stops e w (of_pin (own_domain e) g level false) k) → IfErr y (λ k. Stops v w (of_pin d f level false) k)
      each (Ok done) end b = tt
      each (Err stop) end b = live_why stop end b

-- ---- the hand
pub acquired_holds : (v c e : PortValue) (f d level g : ℕ) → Rests v → Same v c → d ≡ own_domain v → FlushedHolds c e (record c.holdings { typed = live_typed g (level_type level) (owners.Of d) ∷ c.holdings.typed }) → HoldsTable e g level
acquired_holds v c e f d level g rests same own holds =
    let post : e.post ≡ v.post = ap (λ (q : PortValue). q.post) holds ∙ ap (λ (q : PortValue). q.post) same in
    let is : d ≡ own_domain e = own ∙ ap (λ (p : Post). domain_of p.machine p.vcpu) (sym post) in
    record {
      typed = ap (λ (q : PortValue). q.holdings.typed) holds ∙ ap (λ (ys : List TypedReference). live_typed g (level_type level) (owners.Of d) ∷ ys) (ap (λ (q : PortValue). q.holdings.typed) same ∙ rests.empty.typed)
          ∙ ap (λ o. live_typed g (level_type level) (owners.Of o) ∷ []) is;
      others = empty_as (untyped_hand e.holdings) v.holdings
          (ap (λ (q : PortValue). bare (untyped_hand q.holdings)) holds ∙ ap (λ (q : PortValue). bare (untyped_hand q.holdings)) same ∙ ap (λ (ys : List TypedReference). bare (record v.holdings { typed = ys })) (sym rests.empty.typed)) rests.empty;
    }

module _ (v c e : PortValue) (f d level : ℕ) (same : Same v c) where
  -- it was not acquired
  pub unacquired_hand : d ≡ own_domain v → (stop : Stop) → LeavesAcquired c e f d level (Err stop) → LeavesElement v e (Pin f level) (Err stop)
  unacquired_hand home (Refused x) (inl leaves) = inl (leaves ∙ ap quiet same)
  unacquired_hand home (Refused x) (inr leaves) = inr (leaves ∙ ap (λ (q : PortValue). quiet (record q { holdings = record q.holdings { old0 = Some (f + 1) } })) same)
  unacquired_hand home (Paused x) (inl leaves) = leaves ∙ ap quiet same
  unacquired_hand home (Paused x) (inr leaves) = absurd (leaves.0 (home ∙ ap (λ (q : PortValue). domain_of q.post.machine q.post.vcpu) (sym same)))

  -- it was, and its typed reference is gone
  module _ (g : ℕ) (at : g ≡ f) (rests : Rests v) (holds : FlushedHolds c e (record c.holdings { typed = live_typed g (level_type level) (owners.Of d) ∷ c.holdings.typed })) (w : PortValue) where
    without : quiet (record e { holdings = untyped_hand e.holdings }) ≡ quiet v
    without =
        ap (λ (q : PortValue). quiet (record q { holdings = untyped_hand q.holdings })) holds ∙ ap (λ (q : PortValue). quiet (record q { holdings = untyped_hand q.holdings })) same
        ∙ ap (λ (ys : List TypedReference). quiet (record v { holdings = record v.holdings { typed = ys } })) (sym rests.empty.typed)

    gone_hand : Holds e w (untyped_hand e.holdings) → FlushedHolds v w v.holdings
    gone_hand gone = ap quiet gone ∙ without

    names_hand : Holds e w (named_old g (untyped_hand e.holdings)) → FlushedHolds v w (record v.holdings { old0 = Some (f + 1) })
    names_hand names =
        ap quiet names ∙ ap (λ (q : PortValue). quiet (record q { holdings = named_old g q.holdings })) without ∙ ap (λ k. quiet (record v { holdings = record v.holdings { old0 = Some (k + 1) } })) at

    pub live_hand : (answer : Result (Unit {0}) Stop) → LeavesTable e w g answer → LeavesElement v w (Pin f level) answer
    live_hand (Ok done) gone = gone_hand gone
    live_hand (Err (Refused x)) (inl gone) = inl (gone_hand gone)
    live_hand (Err (Refused x)) (inr names) = inr (names_hand names)
    live_hand (Err (Paused x)) gone = gone_hand gone
