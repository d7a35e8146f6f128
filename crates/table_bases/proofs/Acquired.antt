-- The table is acquired behind the look at the clock: the steps, why it is not had, and the course.
use Rattle.std.proofs.Common.{◌≡◌, ◌≢◌, ◌⊎◌, ℕ, ◌++◌, Bool, true, not, [], ◌∷◌, Some, Result, Ok, Err, refl, sym, ap, ◌∙◌, subst, append-nil, arith, inl, inr}
use Rattle.xp_words.specs.declared.kind.PageType.TheVariants.{L4}
use Rattle.xp_words.specs.declared.place.Place.TheVariants.{Kind}
use Rattle.xp_words.specs.declared.reply.Stop.{Stop}
use Rattle.xp_board.specs.Hands.{refs_to, work_on}
use Rattle.xp_board.specs.Readings.{domain_of, last_clock}
use Rattle.xp_board.specs.Told.{Post, PortValue}
use Rattle.xp_board.proofs.Sums.{when_eq}
use Rattle.step_maker.specs.Holds.{Same}
use Rattle.step_maker.specs.Moves.{Met}
use Rattle.step_maker.proofs.Coming.{came_post, met_after}
use Rattle.step_maker.specs.Answers.{Misses, Serves, Stops, misses}
use Rattle.step_maker.specs.Asked.{NoMore, Request, Within, of_table}
use Rattle.step_maker.proofs.Piecing.{serves_came, serves_inner, stops_inner}
use Rattle.xp_preempt.specs.Gates.{Gate}
use Rattle.xp_preempt.proofs.Consulting.{gated_as, gated_past}
use Rattle.kept_marks.specs.Marks.{IsForeign}
use Rattle.level_validate.specs.Acquiring.{AcquiresBy, ServesAcquired, of_acquire}
use Rattle.level_validate.specs.Acquiring as acquires
use Rattle.level_validate.specs.Unwinding.{own_domain}
use Rattle.level_release.specs.Asking.{is_due_stop}
use Rattle.table_entries.specs.Acquiring.{Acquired}
use Rattle.table_bases.specs.declared.words.Base.{Base}
use Rattle.table_bases.specs.Asking.{base_deeds, of_base}
use Rattle.table_bases.specs.Course.{InstallsBy, MeetsBase, SawClock}
use Rattle.table_bases.specs.Course as course
use Rattle.table_bases.proofs.Clocked.{installed, looked, looked_came}
use Rattle.table_bases.proofs.Requests.{within_acquire}

module _ (v a e : PortValue) (clock f d : ℕ) (look : SawClock v a clock) (home : d ≡ own_domain a) where
  there : d ≡ own_domain v
  there = home ∙ ap (λ (p : Post). domain_of p.machine p.vcpu) (came_post v a (looked_came look))

  -- the frame is the own domain's: no mark of it is taken back
  module _ (answer : Result ℕ Stop) where
    abbrev request : Request
    request = of_table f d (Some L4) d (acquires.is_due_answer answer)

    request_is : of_acquire a f d 4 d answer ≡ request
    request_is = ap (λ b. record request { locks = not b }) (when_eq d (own_domain a) home)

    seen : ServesAcquired a e f d 4 d answer → Serves a e request (misses a.post.machine answer)
    seen s = subst (λ r. Serves a e r (misses a.post.machine answer)) request_is (shown s.may)
      where
        shown : (s.hidden ≡ []) ⊎ (IsForeign a d × (acquires.is_paused_answer answer ≡ true) × (s.hidden ≡ Misses (Kind f) ∷ [])) → Serves a e (of_acquire a f d 4 d answer) (misses a.post.machine answer)
        shown (inl none) = subst (λ ds. Serves a e (of_acquire a f d 4 d answer) (ds ++ misses a.post.machine answer)) none s.serves
        shown (inr foreign) = absurd (foreign.0 home)

    module _ (rose : Bool) (rises : acquires.is_due_answer answer ≡ true → rose ≡ true) where
      acquiring : Within v.post.machine v.post.vcpu request (Met a e) (of_base d (Some f) rose) (Met v e)
      acquiring = within_acquire v.post.machine v.post.vcpu f d (acquires.is_due_answer answer) rose (Met a e) (Met v e) (λ m x. met_after v a e m (looked_came look) x) rises

      pub acquired_serves : ServesAcquired a e f d 4 d answer → Serves v e (of_base (own_domain v) (Some f) rose) (misses v.post.machine answer)
      acquired_serves s =
          subst (λ o. Serves v e (of_base o (Some f) rose) (misses v.post.machine answer)) there
          (subst (λ ds. Serves v e (of_base d (Some f) rose) ds) (append-nil (misses v.post.machine answer))
          (serves_inner v a e (of_base d (Some f) rose) request [] (misses v.post.machine answer) acquiring (looked look (of_base d (Some f) rose))
          (subst (λ (p : Post). Serves a e request (misses p.machine answer)) (came_post v a (looked_came look)) (seen s))))

      pub unacquired_stops : Same v a → (stop : Stop) → Stops a e (of_acquire a f d 4 d answer) stop → Stops v e (of_base (own_domain v) (Some f) rose) stop
      unacquired_stops same stop s =
          subst (λ o. Stops v e (of_base o (Some f) rose) stop) there
          (stops_inner v a e (of_base d (Some f) rose) request stop acquiring (no_more same) (looked_came look) (subst (λ r. Stops a e r stop) request_is s))
        where
          no_more : Same v a → NoMore (of_base d (Some f) rose) a.holdings v.holdings
          no_more same g =
              record {
                refs = λ away. let is = ap (λ (q : PortValue). refs_to g q.holdings.refs) same in omega (arith, is);
                works = λ none. sym (ap (λ (q : PortValue). work_on g q.holdings.works) same) ∙ none;
                typed = λ off. absurd cc;
              }

-- ---- the ways out
module _ {v a e : PortValue} {clock f d : ℕ} (look : SawClock v a clock) (home : d ≡ own_domain a) (some : clock ≢ last_clock) where
  -- it is not had
  pub refused : {answer : Result (Unit {0}) Stop} {stop : Stop} {base : Base} {g h : Gate} → answer ≡ Err stop → Same v a → ServesAcquired a e f d 4 d (Err stop) → Stops a e (of_acquire {A = ℕ} a f d 4 d (Err stop)) stop →
      AcquiresBy a e f d 4 g h (Err stop) → MeetsBase v e base (Some f) g h answer
  refused {stop} is same serves stops by =
      let served = acquired_serves v a e clock f d look home (Err stop) (is_due_stop stop) (λ due. due) serves in
      rw is
      (record {
        came = serves_came v e _ _ served;
        serves = served;
        stops = unacquired_stops v a e clock f d look home (Err stop) (is_due_stop stop) (λ due. due) same stop stops;
        course = gated_past (gated_as refl (λ answers taken. course.unacquired a f clock answers stop look some (subst (λ o. Acquired a f o 4 e answers (Err stop)) (there v a e clock f d look home) taken)) by);
      })

  -- it is
  pub named : {g h k : Gate} {at : ℕ} {w : PortValue} {base : Base} → at ≡ f → ServesAcquired a e f d 4 d (Ok at) → AcquiresBy a e f d 4 g h (Ok at) →
      Serves e w (of_base (own_domain e) (Some at) true) (base_deeds e base (Some at) (Ok tt)) → InstallsBy e w base (Some at) h k → MeetsBase v w base (Some f) g k (Ok tt)
  named {h} {k} {at} {w} {base} is serves by sets installs =
      installed look e (acquired_serves v a e clock f d look home (Ok at) true (λ due. cc) serves) some
      (gated_past (gated_as refl (λ answers taken. subst (λ o. Acquired a f o 4 e answers (Ok f)) home (subst (λ q. Acquired a f d 4 e answers (Ok q)) is taken)) by))
      (subst (λ q. Serves e w (of_base (own_domain e) (Some q) true) (base_deeds e base (Some q) (Ok tt))) is sets) (subst (λ q. InstallsBy e w base (Some q) h k) is installs)
