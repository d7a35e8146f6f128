-- The frame that an old word named was found live, or in another vCPU's hand: what the steps show of the answer.
use Rattle.std.proofs.Common.{◌≡◌, ◌≢◌, ℕ, Option, ◌==◌, if◌then◌else◌, Bool, true, false, List, [], None, Some, Result, Ok, Err, IfErr, refl, sym, ap, ◌∙◌, subst, append-nil, inl, inr, arith}
use Rattle.std.proofs.lemmas.Bool.{or_left}
use Rattle.std.proofs.lemmas.Bool.Decides.{nat_tests}
use Rattle.xp_words.specs.KindWords.{kind_fields, kind_read}
use Rattle.xp_words.specs.declared.kind.KindWord.{KindWord}
use Rattle.xp_words.specs.declared.place.Place.TheVariants.{Kind}
use Rattle.xp_words.specs.declared.reply.Pause.TheVariants.{Busy, Due}
use Rattle.xp_words.specs.declared.reply.Stop.{Stop}
use Rattle.xp_words.specs.declared.reply.Stop.TheVariants.{Paused, Refused}
use Rattle.xp_board.specs.KindSteps.{Dead, InWork, Live, Partial, form_of}
use Rattle.xp_board.specs.Readings.{domain_of}
use Rattle.xp_board.specs.Told.{Post, PortValue}
use Rattle.xp_board.specs.declared.step.Act.TheVariants.{Load}
use Rattle.xp_board.specs.declared.step.StepKind.TheVariants as kinds
use Rattle.xp_board.proofs.KindForms.{fields_of}
use Rattle.step_maker.specs.Moves.{Came, Met}
use Rattle.step_maker.proofs.Coming.{came_self, met_after, moment_of, moves_met}
use Rattle.step_maker.specs.Answers.{Serves, Stops, misses}
use Rattle.step_maker.specs.Asked.{IsAsked, Within}
use Rattle.step_maker.proofs.Later.{IsUncounted, stops_later}
use Rattle.step_maker.proofs.Piecing.{serves_inner}
use Rattle.table_words.specs.declared.old_words.OldWord.{OldWord}
use Rattle.level_release.specs.Asking.{IsReleaseEnd, is_due_answer, of_release, of_settle}
use Rattle.table_entries.specs.Acquiring.{Named}
use Rattle.level_release.specs.Course.{ReleasedTo, SettledOneTo}
use Rattle.level_release.specs.Course as courses
use Rattle.level_release.specs.Settling.{TookOld}
use Rattle.level_release.proofs.Asking.{settle_within}
use Rattle.level_release.proofs.Counted.{in_work}
use Rattle.level_release.proofs.Named.{asks_it, names_it, passed_it, taken_came, took_came, took_serves}
use Rattle.level_release.proofs.Taken.{taken_elsewhere, taken_held, took_post}

pub end_uncounted : (e : Stop) → IsReleaseEnd e → IsUncounted e
end_uncounted (Paused x) is = tt
end_uncounted (Refused x) is = absurd is

pub due_ends : (e : Stop) → e ≡ Paused Due → IsReleaseEnd e
due_ends e is = rw is tt

module _ {u v : PortValue} {which : OldWord} {f word : ℕ} (t : TookOld u v which f word) (owner pages : ℕ) where
  -- ---- it is released
  module _ (w : PortValue) (answer : Result (Unit {0}) Stop) (came : Came v w) where
    inside : Within u.post.machine u.post.vcpu (of_release f owner pages answer) (Met v w) (of_settle owner pages answer) (Met u w)
    inside =
        let rose = is_due_answer answer in
        settle_within u.post.machine u.post.vcpu owner pages (λ g. g == f) false rose rose (Met v w) (Met u w) (λ m y. met_after u v w m (took_came t owner pages rose) y)
        (λ g at. subst (λ h. IsAsked u.post.machine u.post.vcpu (of_settle owner pages answer) (Met u w) h) (let is : f ≡ g = grind (arith, nat_tests) in is) (asks_it t owner pages rose w came)) (λ due. due)

    same_post : v.post ≡ u.post
    same_post = took_post t

    pub released_serves : Serves v w (of_release f owner pages answer) (misses v.post.machine answer) → Serves u w (of_settle owner pages answer) (misses u.post.machine answer)
    released_serves serves =
        let ds = misses u.post.machine answer in
        subst (λ es. Serves u w (of_settle owner pages answer) es) (append-nil ds) (serves_inner u v w (of_settle owner pages answer) (of_release f owner pages answer) [] ds inside
        (took_serves t owner pages (is_due_answer answer)) (subst (λ (p : Post). Serves v w (of_release f owner pages answer) (misses p.machine answer)) same_post serves))

    released_stop : (e : Stop) → IsReleaseEnd e → Stops v w (of_release f owner pages answer) e → Stops u w (of_settle owner pages answer) e
    released_stop e end stops = stops_later u v w (of_settle owner pages answer) (of_release f owner pages answer) e (end_uncounted e end) inside (took_came t owner pages (is_due_answer answer)) stops

  pub released_stops : (w : PortValue) (answer : Result (Unit {0}) Stop) → Came v w → IfErr answer (λ e. e ≡ Paused Due) → IfErr answer (λ e. Stops v w (of_release f owner pages answer) e) → IfErr answer (λ e. Stops u w (of_settle owner pages answer) e)
  released_stops w (Ok done) came ends stops = tt
  released_stops w (Err e) came ends stops = released_stop w (Err e) came e (due_ends e ends) stops

  -- ---- it is in another vCPU's hand
  pub busy_stops : (kind_fields word).validated ≡ false → (kind_fields word).partial ≡ false → Stops u v (of_settle {A = Unit {0}} owner pages (Err (Paused (Busy f word)))) (Paused (Busy f word))
  unfolding Stops moment_of
  busy_stops unlive whole =
      inl (
        domain_of u.post.machine u.post.vcpu,
        None,
        t.b.holdings,
        names_it t owner pages false v (came_self v) None tt,
        record {
          moment = moment_of t.b (Kind f) Load kinds.Look None word;
          was = met_after u t.b v _ (taken_came t owner pages false) (moves_met t.b v (Kind f) Load kinds.Look None word t.kind);
          place = refl;
          word = refl;
          hand = refl;
        },
        passed_it t owner pages false v (came_self v) t.b.holdings,
        or_left _ _ (in_work t.kind.finds (taken_held t) unlive whole),
        inr refl,
        taken_elsewhere t,
      )

-- ---- by which steps
live_form : (k : KindWord) → k.validated ≡ true → form_of k ≡ Live
live_form k live = rw live refl

by_lock : (locked : Bool) → ((if locked then InWork else Dead) ≢ Live) × ((if locked then InWork else Dead) ≢ Partial)
by_lock true = (λ e. cc, λ e. cc)
by_lock false = (λ e. cc, λ e. cc)

other_form : (k : KindWord) → k.validated ≡ false → k.partial ≡ false → (form_of k ≢ Live) × (form_of k ≢ Partial)
other_form k unlive whole = rw (unlive, whole) (by_lock k.locked)

module _ {u v : PortValue} {which : OldWord} {f word : ℕ} (t : TookOld u v which f word) {k : KindWord} (read : kind_read word ≡ Some k) where
  pub live_course : (below left : Option ℕ) (w : PortValue) (answers : List Bool) (answer : Result (Unit {0}) Stop) → k.validated ≡ true → ReleasedTo below left v f k.kind w answers answer → SettledOneTo below left u which w answers answer
  live_course below left w answers answer live released =
      let fields = fields_of word k read in
      let same : ReleasedTo below left v f (kind_fields word).kind w answers answer = subst (λ (y : KindWord). ReleasedTo below left v f y.kind w answers answer) (sym fields) released in
      (courses.live t.a t.b v w f word answers answer t.look t.take t.kind (ap form_of fields ∙ live_form k live) same.0, same.1)

  pub busy_course : (below : Option ℕ) (w : PortValue) → k.validated ≡ false → k.partial ≡ false → Named v w f → SettledOneTo below below u which w [] (Err (Paused (Busy f word)))
  busy_course below w unlive whole again =
      let forms = subst (λ y. (form_of y ≢ Live) × (form_of y ≢ Partial)) (sym (fields_of word k read)) (other_form k unlive whole) in (courses.busy t.a t.b v w f word t.look t.take t.kind forms.0 forms.1 again, refl)
