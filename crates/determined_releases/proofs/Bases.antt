-- A new base is determined: its table acquired, the word stored, the own cache flushed, and the old table released.
use Rattle.std.proofs.Common.{◌≡◌, ◌≢◌, ◌⊎◌, ◌+◌, ◌++◌, ℕ, zero, suc, Bool, List, Option, Some, None, Result, Ok, Err, length, refl, sym, ap, ◌∙◌, subst, inl, inr}
use Rattle.xp_words.specs.Places.{flushed_of}
use Rattle.xp_words.specs.declared.place.Place.TheVariants.{Clock}
use Rattle.xp_words.specs.declared.reply.Stop.{Stop}
use Rattle.xp_preempt.specs.Gates.{GivesAnswers, asks_on}
use Rattle.xp_board.specs.Readings.{domain_of, last_clock}
use Rattle.xp_board.specs.Told.{PortValue, Post}
use Rattle.xp_board.specs.declared.step.Act.TheVariants.{Cas, Load, Store}
use Rattle.xp_board.specs.declared.step.StepKind.TheVariants as steps
use Rattle.step_maker.specs.Holds.{own_domain}
use Rattle.step_maker.specs.Moves.{Came, Moves}
use Rattle.step_maker.proofs.Coming.{came_post, came_self, came_trans}
use Rattle.flush_words.specs.Flushing as flushing
use Rattle.flush_words.specs.Flushing.{FlushesOwn}
use Rattle.table_entries.specs.Acquiring.{Acquired}
use Rattle.table_bases.specs.Course as course
use Rattle.table_bases.specs.Course.{AcquiresTop, FlushesBehind, Installed, ReleasesOld, SetsBase}
use Rattle.table_bases.specs.declared.words.Base.{Base}
use Rattle.table_bases.proofs.Behind.{behind_came}
use Rattle.determined_laws.specs.Courses.{Alike}
use Rattle.determined_laws.proofs.Courses.{alike_apart, alike_map, alike_move, alike_same, alike_then}
use Rattle.determined_laws.proofs.Ties.{same_or}
use Rattle.determined_tables.proofs.Acquired.{acquired_alike, acquired_came}
use Rattle.determined_releases.proofs.Answers.{gives_first, gives_rest}
use Rattle.determined_releases.proofs.Calls.{alike_split, alike_step, move_came, move_on}
use Rattle.determined_releases.proofs.Released.{released_alike, released_came}

-- ---- the flush behind the store: by the clock value that is found
module _ (v : PortValue) where
  -- behind the look at the clock
  data FlushRest (clock : ℕ) (a w : PortValue) : Type 0 where
    at_last : clock ≡ last_clock → (before : ℕ) → Moves a w (flushed_of v.post.vcpu) (Store last_clock) steps.Ack None before → FlushRest clock a w
    ticks : clock ≢ last_clock → (b : PortValue) (found before : ℕ) → Moves a b Clock (Cas clock (clock + 1)) steps.Tick None found →
        (to : ℕ) → (found ≡ clock → to ≡ clock + 1) → (found ≢ clock → to ≡ found) → Moves b w (flushed_of v.post.vcpu) (Store to) steps.Ack None before → FlushRest clock a w

  data Flushes (w : PortValue) : Type 0 where
    flushes : (a : PortValue) (clock : ℕ) → Moves v a Clock Load steps.Look None clock → FlushRest clock a w → Flushes w

  flushes_by : (w : PortValue) → FlushesBehind v w → Flushes w
  flushes_by w (course.FlushesBehind.flushed (flushing.FlushesOwn.ticked a b clock before off look tick store)) =
      flushes a clock look (ticks off b clock before tick (clock + 1) (λ e. refl) (λ n. absurd (n refl)) store)
  flushes_by w (course.FlushesBehind.flushed (flushing.FlushesOwn.overtaken a b clock found before off other look tick store)) =
      flushes a clock look (ticks off b found before tick found (λ e. absurd (other e)) (λ n. refl) store)
  flushes_by w (course.FlushesBehind.spent u before look store) = flushes u last_clock look (at_last refl before store)

  rest_came : (clock : ℕ) (a w : PortValue) → FlushRest clock a w → Came a w
  rest_came clock a w (at_last is before store) = move_came store
  rest_came clock a w (ticks off b found before tick to met lost store) = move_on w tick (move_came store)

  by_came : (w : PortValue) → Flushes w → Came v w
  by_came w (flushes a clock look rest) = move_on w look (rest_came clock a w rest)

  to_same : (clock found to at : ℕ) → (found ≡ clock → to ≡ clock + 1) → (found ≢ clock → to ≡ found) → (found ≡ clock → at ≡ clock + 1) → (found ≢ clock → at ≡ found) → to ≡ at
  to_same clock found to at met lost hit missed = by (same_or found clock)
    where
      by : (found ≡ clock) ⊎ (found ≢ clock) → to ≡ at
      by (inl e) = met e ∙ sym (hit e)
      by (inr n) = lost n ∙ sym (missed n)

  rest_alike : (clock : ℕ) (a w x : PortValue) → FlushRest clock a w → FlushRest clock a x → Alike a w x (Unit {0})
  rest_alike clock a w x (at_last is before store) (at_last are found puts) = alike_map (alike_move store puts) (λ e. tt)
  rest_alike clock a w x (at_last is before store) (ticks off b found old tick to met lost puts) = absurd (off is)
  rest_alike clock a w x (ticks off b found old tick to met lost puts) (at_last is before store) = absurd (off is)
  rest_alike clock a w x (ticks off b found old tick to met lost store) (ticks out c seen before tock at hit missed puts) =
      alike_step tick tock (move_came store) (move_came puts)
      (λ e m. let to_is : at ≡ to = sym (to_same clock found to at met lost (λ i. hit (sym m ∙ i)) (λ n. missed (λ i. n (m ∙ i)) ∙ sym m)) in
      alike_map (alike_move store (subst (λ z. Moves b x (flushed_of v.post.vcpu) (Store z) steps.Ack None before) to_is (subst (λ z. Moves z x (flushed_of v.post.vcpu) (Store at) steps.Ack None before) (sym e) puts))) (λ k. tt))

  by_alike : (w x : PortValue) → Flushes w → Flushes x → Alike v w x (Unit {0})
  by_alike w x (flushes a clock look rest) (flushes b found see next) =
      alike_step look see (rest_came clock a w rest) (rest_came found b x next) (λ e m. rest_alike clock a w x rest (subst (λ z. FlushRest z a x) (sym m) (subst (λ z. FlushRest found z x) (sym e) next)))

pub flushes_behind_alike : (v w x : PortValue) → FlushesBehind v w → FlushesBehind v x → Alike v w x (Unit {0})
flushes_behind_alike v w x p q = by_alike v w x (flushes_by v w p) (flushes_by v x q)

-- ---- what the word named before
releases_old_came : (old : ℕ) (v w : PortValue) (answers : List Bool) → ReleasesOld v w old answers → Came v w
releases_old_came zero v w answers p = subst (λ z. Came v z) (sym p.0) (came_self v)
releases_old_came (suc g) v w answers p = released_came p.1

-- ---- the table that is to be named
top_came : (new : Option ℕ) (v w : PortValue) (answers : List Bool) → AcquiresTop v w new answers → Came v w
top_came None v w answers p = subst (λ z. Came v z) (sym p.0) (came_self v)
top_came (Some f) v w answers p = acquired_came p

-- behind the store
pub stored_came : {v w : PortValue} {base : Base} {new : Option ℕ} {answers : List Bool} (p : Installed v w base new answers) → Came p.stored w
stored_came {w = w} {answers = answers} p = came_trans p.stored p.flushed w (behind_came p.stored p.flushed p.flushes) (releases_old_came p.old p.flushed w answers p.releases)

pub installed_came : {v w : PortValue} {base : Base} {new : Option ℕ} {answers : List Bool} → Installed v w base new answers → Came v w
installed_came {w = w} p = move_on w p.stores (stored_came p)

pub sets_base_came : {v w : PortValue} {base : Base} {new : Option ℕ} {answers : List Bool} {a : Result (Unit {0}) Stop} → SetsBase v w base new answers a → Came v w
sets_base_came (course.SetsBase.spent new look) = move_came look
sets_base_came {w = w} (course.SetsBase.unacquired o f clock answers stop look off took) = move_on w look (acquired_came took)
sets_base_came {w = w} (course.SetsBase.installed o b clock new answers more look off top installs) = move_on w look (came_trans o b w (top_came new o b answers top) (installed_came installs))

module _ (says : ℕ → Bool) (n : ℕ) {answers others : List Bool} (g : GivesAnswers says n answers) (h : GivesAnswers says n others) where
  releases_old_alike : (old : ℕ) (v w x : PortValue) → ReleasesOld v w old answers → ReleasesOld v x old others → Alike v w x (answers ≡ others)
  releases_old_alike zero v w x p q = alike_same (p.0 ∙ sym q.0) (p.1 ∙ sym q.1)
  releases_old_alike (suc f) v w x p q = alike_map (released_alike says n g h p.1 q.1) (λ e. e.0)

  top_alike : (new : Option ℕ) (v w x : PortValue) → AcquiresTop v w new answers → AcquiresTop v x new others → Alike v w x (answers ≡ others)
  top_alike None v w x p q = alike_same (p.0 ∙ sym q.0) (p.1 ∙ sym q.1)
  top_alike (Some f) v w x p q = alike_map (acquired_alike says n g h p q) (λ e. e.0)

  pub installed_alike : {v w x : PortValue} {base : Base} {new : Option ℕ} → Installed v w base new answers → Installed v x base new others → Alike v w x (answers ≡ others)
  installed_alike {v} {w} {x} {base} {new} p q =
      alike_step p.stores q.stores
      (came_trans p.stored p.flushed w (behind_came p.stored p.flushed p.flushes) (releases_old_came p.old p.flushed w answers p.releases))
      (came_trans q.stored q.flushed x (behind_came q.stored q.flushed q.flushes) (releases_old_came q.old q.flushed x others q.releases))
      (λ e m. alike_then (behind_came p.stored p.flushed p.flushes) (releases_old_came p.old p.flushed w answers p.releases) (releases_old_came q.old q.flushed x others q.releases)
      (flushes_behind_alike p.stored p.flushed q.flushed p.flushes (subst (λ z. FlushesBehind z q.flushed) (sym e) q.flushes))
      (λ s k. releases_old_alike p.old p.flushed w x p.releases (subst (λ z. ReleasesOld z x p.old others) (sym s) (subst (λ z. ReleasesOld q.flushed x z others) (sym m) q.releases))))

-- ---- the whole
stop_same : (e s : Stop) → ◌≡◌ {A = Result ℕ Stop} (Err e) (Err s) → ◌≡◌ {A = Result (Unit {0}) Stop} (Err e) (Err s)
stop_same e s t = cc

-- for the own domain, as it was before
own_top : (v u : PortValue) (f : ℕ) (w : PortValue) (answers : List Bool) (a : Result ℕ Stop) → Came v u → Acquired u f (own_domain u) 4 w answers a → Acquired u f (own_domain v) 4 w answers a
own_top v u f w answers a came took = subst (λ (q : Post). Acquired u f (domain_of q.machine q.vcpu) 4 w answers a) (came_post v u came) took

pub sets_base_alike : {v w x : PortValue} {base : Base} {new : Option ℕ} {answers others : List Bool} {a b : Result (Unit {0}) Stop} (says : ℕ → Bool) (n : ℕ) → GivesAnswers says n answers → GivesAnswers says n others →
    SetsBase v w base new answers a → SetsBase v x base new others b → Alike v w x ((answers ≡ others) × (a ≡ b))
sets_base_alike says n g h (course.SetsBase.spent new look) (course.SetsBase.spent _ see) = alike_map (alike_move look see) (λ e. (refl, refl))
sets_base_alike {w = w} says n g h (course.SetsBase.spent _ look) (course.SetsBase.unacquired o f clock others stop see off took) = alike_split look see (came_self w) (acquired_came took) (λ e. off (sym e))
sets_base_alike {w = w} {x} says n g h (course.SetsBase.spent _ look) (course.SetsBase.installed o b clock new others more see off top installs) =
    alike_split look see (came_self w) (came_trans o b x (top_came new o b others top) (installed_came installs)) (λ e. off (sym e))
sets_base_alike {x = x} says n g h (course.SetsBase.unacquired o f clock answers stop look off took) (course.SetsBase.spent _ see) = alike_split look see (acquired_came took) (came_self x) off
sets_base_alike {v} {x = x} says n g h (course.SetsBase.unacquired o f clock answers stop look off took) (course.SetsBase.unacquired p _ found others halt see out takes) =
    alike_step look see (acquired_came took) (acquired_came takes)
    (λ e m. alike_map (acquired_alike says n g h took (subst (λ z. Acquired z f (own_domain v) 4 x others (Err halt)) (sym e) takes)) (λ s. (s.0, stop_same stop halt s.1)))
sets_base_alike {v} {x = x} says n g h (course.SetsBase.unacquired o f clock answers stop look off took) (course.SetsBase.installed p b found _ others more see out top installs) =
    alike_step look see (acquired_came took) (came_trans p b x (acquired_came top) (installed_came installs))
    (λ e m. alike_apart (came_self _) (installed_came installs) (acquired_alike says n g (gives_first says n others more h) took (subst (λ z. Acquired z f (own_domain v) 4 b others (Ok f)) (sym e) (own_top v p f b others (Ok f) (move_came see) top))) (λ s. let t = s.1 in cc))
sets_base_alike {w = w} {x} says n g h (course.SetsBase.installed o b clock new answers more look off top installs) (course.SetsBase.spent _ see) =
    alike_split look see (came_trans o b w (top_came new o b answers top) (installed_came installs)) (came_self x) off
sets_base_alike {v} {w} {x} says n g h (course.SetsBase.installed o b clock _ answers more look off top installs) (course.SetsBase.unacquired p f found others stop see out takes) =
    alike_step look see (came_trans o b w (acquired_came top) (installed_came installs)) (acquired_came takes)
    (λ e m. alike_apart (installed_came installs) (came_self x) (acquired_alike says n (gives_first says n answers more g) h (own_top v o f b answers (Ok f) (move_came look) top) (subst (λ z. Acquired z f (own_domain v) 4 x others (Err stop)) (sym e) takes)) (λ s. let t = s.1 in cc))
sets_base_alike {w = w} {x} {base} says n g h (course.SetsBase.installed o b clock new answers more look off top installs) (course.SetsBase.installed p c found _ others asked see out tops sets) =
    alike_step look see (came_trans o b w (top_came new o b answers top) (installed_came installs)) (came_trans p c x (top_came new p c others tops) (installed_came sets))
    (λ e m. alike_then (top_came new o b answers top) (installed_came installs) (installed_came sets)
    (top_alike says n (gives_first says n answers more g) (gives_first says n others asked h) new o b c top (subst (λ z. AcquiresTop z c new others) (sym e) tops))
    (λ s k. alike_map (installed_alike says (asks_on (length answers) n) (gives_rest says n answers more g) (subst (λ z. GivesAnswers says (asks_on (length z) n) asked) (sym k) (gives_rest says n others asked h))
    installs (subst (λ z. Installed z x base new asked) (sym s) sets)) (λ t. (ap (λ z. z ++ answers) t ∙ ap (λ z. asked ++ z) k, refl))))
