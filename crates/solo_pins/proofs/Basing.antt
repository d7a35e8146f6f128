-- A new base comes to its plain meaning, or is paused by the gate and will go on.
use Rattle.std.proofs.Common.{◌≡◌, ◌⊎◌, ℕ, ◌+◌, Bool, true, List, Option, Some, None, Result, Ok, Err, refl, sym, ap, ◌∙◌, subst, inl, inr, arith}
use Rattle.std.proofs.Math.Path.{fun_ext}
use Rattle.xp_words.specs.Machine.{Machine}
use Rattle.xp_words.specs.declared.place.Place.TheVariants.{Clock}
use Rattle.xp_words.specs.declared.reply.Pause.TheVariants.{Due}
use Rattle.xp_words.specs.declared.reply.Stop.{Stop}
use Rattle.xp_words.specs.declared.reply.Stop.TheVariants.{Refused, Paused}
use Rattle.xp_board.specs.declared.step.Act.TheVariants.{Load}
use Rattle.xp_board.specs.declared.step.StepKind.TheVariants as kinds
use Rattle.xp_board.specs.Readings.{domain_of}
use Rattle.xp_board.specs.Told.{Post, PortValue, is_telling, told_word}
use Rattle.step_maker.specs.Answers.{missed}
use Rattle.step_maker.specs.Holds.{Rests}
use Rattle.step_maker.specs.Moves.{Came}
use Rattle.step_maker.specs.Plain.{Words}
use Rattle.step_maker.proofs.Coming.{came_post, came_self, came_trans, moves_came}
use Rattle.step_maker.proofs.Piecing.{serves_came}
use Rattle.step_maker.proofs.Telling.{came_telling, load_tells}
use Rattle.answer_laws.proofs.Shared.{alone_telling}
use Rattle.table_words.specs.OldWords.{old_place}
use Rattle.table_words.specs.declared.old_words.OldWord.TheVariants.{First}
use Rattle.table_entries.specs.Acquiring.{Acquired}
use Rattle.table_bases.specs.declared.words.Base.{Base}
use Rattle.table_bases.specs.Asking.{LeavesBase, ServesBase, base_request, may_rise, of_base}
use Rattle.table_bases.specs.Course.{AcquiresTop, Installed, SawClock, SetsBase, flushed, installed, spent, unacquired}
use Rattle.table_bases.specs.Course as course
use Rattle.table_bases.specs.Holding.{base_number, naming}
use Rattle.table_bases.proofs.Behind.{behind_came}
use Rattle.table_law.specs.Alone.{alone}
use Rattle.table_law.specs.Plain.{Describes, Plain}
use Rattle.table_law.specs.Release.{let_go}
use Rattle.course_laws.proofs.Awaiting.{AloneStays}
use Rattle.course_laws.proofs.Stopping.{acquired_came}
use Rattle.refusal_laws.specs.Refusals.{ComesTo}
use Rattle.refusal_laws.specs.Repeated.{word}
use Rattle.script_law.specs.Frames.{rename, set_base}
use Rattle.script_law.specs.Values.{Solo, Outcome, behind_by, did, with_frames}
use Rattle.solo_ports.specs.Coming.{Comes, IsDoneSo}
use Rattle.solo_ports.specs.Standing.{Clean, Fair, IsSettled, IsUnkept, KeepsTable, Stands, whose}
use Rattle.solo_ports.proofs.Unkept.{unkept_alone}
use Rattle.solo_pins.specs.Performing.{KeepsTop}
use Rattle.solo_pins.proofs.Acquiring.{as_call, is_due, refused_so, second_by}
use Rattle.solo_pins.proofs.Beginning.{Begins, alive_between, own_alive}
use Rattle.solo_pins.proofs.Deeds.{missed_nothing}
use Rattle.solo_pins.proofs.Flushing.{done_so}
use Rattle.solo_pins.proofs.Given.{HadSpares, PausedReleaseLeaves, ReleaseLeaves}
use Rattle.solo_pins.proofs.Installing.{clock_below, installs, rel_came}
use Rattle.solo_pins.proofs.Standing.{IsMild, first_same, first_there, second_same, stands_stay}

mild : (d : ℕ) (new : Option ℕ) (rose : Bool) → IsMild (of_base d new rose)
mild d (Some f) rose = record { destroys = refl; grants = refl; pages = refl }
mild d None rose = record { destroys = refl; grants = refl; pages = refl }

mild_request : (v : PortValue) (new : Option ℕ) (answer : Result (Unit {0}) Stop) → IsMild (base_request v new answer)
mild_request v new answer = mild (domain_of v.post.machine v.post.vcpu) new (may_rise answer)

installed_came : (b w : PortValue) (which : Base) (new : Option ℕ) (more : List Bool) → Installed b w which new more → Came b w
installed_came b w which new more a =
    came_trans b a.stored w (moves_came b a.stored _ _ _ _ _ a.stores) (came_trans a.stored a.flushed w (behind_came a.stored a.flushed a.flushes) (rel_came a.flushed w a.old more a.releases))

-- ---- how it begins, by the new table
abbrev pub Starts : PortValue → PortValue → Solo → Option ℕ → Type 0
Starts v w x (Some f) = Begins v w x (whose v).domain f 4
Starts v w x None = Clean v x

module _ (stays : AloneStays) (release : ReleaseLeaves) (paused : PausedReleaseLeaves) (spares : HadSpares) (v w : PortValue) (x : Solo) (which : Base) (stands : Stands v x) (first_v : told_word v (old_place v.post.vcpu First) ≡ 0)
    (settled : IsSettled v) (fair : Fair v w) (own_lives : x.lives ((whose v).domain) ≡ 0) where
  abbrev n : Machine
  n = v.post.machine

  abbrev d : ℕ
  d = (whose v).domain

  abbrev p : Plain
  p = x.frames

  abbrev k : ℕ
  k = base_number which

  telling : is_telling v ≡ true
  telling = alone_telling v stands.alone

  abbrev top_left : Option ℕ → Plain
  top_left (Some f) = (alone v.post.machine (whose v).domain 4 f x.frames).left
  top_left None = x.frames

  abbrev IsTopFine : Option ℕ → Type 0
  IsTopFine (Some f) = (alone v.post.machine (whose v).domain 4 f x.frames).refusal ≡ None
  IsTopFine None = Unit {0}

  abbrev sets : ℕ → Solo → Outcome
  sets f s = did (rename (let_go 4) k (f + 1) s)

  meaning_by : (new : Option ℕ) (P : Outcome → Type 0) → IsTopFine new → P (did (rename (let_go 4) k (naming new) (with_frames (top_left new) x))) → P (set_base n d k new x)
  meaning_by (Some f) P fine holds = subst (λ c. P (behind_by x (alone n d 4 f p) c (sets f))) (sym fine) holds
  meaning_by None P fine holds = holds

  top_unkept : (new : Option ℕ) → IsUnkept n (top_left new)
  top_unkept (Some f) = unkept_alone n d 4 f p stands.unkept
  top_unkept None = stands.unkept

  -- ---- behind the look at the clock
  module _ (a : PortValue) (clock : ℕ) (saw : SawClock v a clock) where
    before : Came v a
    before = moves_came v a Clock Load kinds.Look None clock saw

    same : told_word a ≡ told_word v
    same = fun_ext (load_tells v a Clock kinds.Look None clock saw telling)

    post_a : a.post ≡ v.post
    post_a = came_post v a before

    -- the top table is had
    record HasTop (new : Option ℕ) (b : PortValue) : Type 0 where
      fine : IsTopFine new
      describes : Describes n (told_word b) (top_left new)
      came : Came v b
      first : told_word b (old_place v.post.vcpu First) ≡ told_word v (old_place v.post.vcpu First)

    had_by : (f : ℕ) (b : PortValue) → (Ok f ≡ as_call (Paused Due)) ⊎ ComesTo n b f 4 (alone n d 4 f p) (Ok f) → ComesTo n b f 4 (alone n d 4 f p) (Ok f)
    had_by f b (inl due) = absurd cc
    had_by f b (inr had) = had

    has_top : (new : Option ℕ) → Starts v w x new → (b : PortValue) (answers : List Bool) → Came b w → AcquiresTop a b new answers → HasTop new b
    has_top None clean b answers after top =
        let words : told_word b ≡ told_word v = ap told_word top.0 ∙ same in
        record {
          fine = tt;
          describes = subst (λ (m : Words). Describes n m p) (sym words) clean.frames;
          came = subst (Came v) (sym top.0) before;
          first = ap (λ (m : Words). m (old_place v.post.vcpu First)) words;
        }
    has_top (Some f) begins b answers after top =
        let got : Acquired a f d 4 b answers (Ok f) = subst (λ (o : Post). Acquired a f (domain_of o.machine o.vcpu) 4 b answers (Ok f)) post_a top in
        let had = had_by f b (begins.comes a b answers (Ok f) before same after got) in
        record {
          fine = had.0;
          describes = had.1;
          came = came_trans v a b before (acquired_came a f d 4 b answers (Ok f) got);
          first = spares a b f d 4 f answers (old_place v.post.vcpu First) (came_telling v a before ∙ telling) got (word v.post.vcpu 2 (λ e. absurd (omega arith)) (λ e. absurd (omega arith)))
              ∙ ap (λ (m : Words). m (old_place v.post.vcpu First)) same;
        }

    -- it is installed
    second_done : (new : Option ℕ) → LeavesBase v w new (Ok tt) → w.holdings.old1 ≡ Some 0
    second_done new (inl unmoved) = second_same v w unmoved settled.second
    second_done new (inr named) = ap (λ (z : PortValue). z.holdings.old1) named.1 ∙ settled.second

    done : (new : Option ℕ) → Starts v w x new → (b : PortValue) (answers more : List Bool) → AcquiresTop a b new answers → Installed b w which new more → ServesBase v w which new (Ok tt) → LeavesBase v w new (Ok tt) → Rests w → IsDoneSo w (set_base n d k new x)
    done new starts b answers more top inst serves hand rests =
        let t = has_top new starts b answers (installed_came b w which new more inst) top in
        meaning_by new (IsDoneSo w) t.fine
        (done_so w (rename (let_go 4) k (naming new) (with_frames (top_left new) x))
        (installs stays release paused v w x which new stands first_v fair.clock b (top_left new) t.came t.describes (top_unkept new) t.first more (base_request v new (Ok tt)) serves (mild_request v new (Ok tt)) rests (second_done new hand) inst))

    -- the table is not had
    second_stopped : (f : ℕ) (stop : Stop) → LeavesBase v w (Some f) (Err stop) → w.holdings.old1 ≡ Some 0
    second_stopped f (Refused y) hand = second_by v w f settled hand
    second_stopped f (Paused y) hand = second_same v w hand settled.second

    stops : (f : ℕ) (answers : List Bool) (stop : Stop) → Begins v w x d f 4 → Acquired a f d 4 w answers (Err stop) → (as_call stop ≡ as_call (Paused Due)) ⊎ ComesTo n w f 4 (alone n d 4 f p) (as_call stop) →
        ServesBase v w which (Some f) (Err stop) → LeavesBase v w (Some f) (Err stop) → Rests w → Comes (KeepsTop (Some f)) w x (set_base n d k (Some f) x) (Err stop)
    stops f answers (Refused y) begins got (inl due) serves hand rests = absurd cc
    stops f answers (Refused y) begins got (inr comes) serves hand rests =
        refused_so stays v w x d f 4 stands (base_request v (Some f) (Err (Refused y))) (missed n (Refused y)) serves (mild_request v (Some f) (Err (Refused y))) (missed_nothing n (Refused y)) rests (second_stopped f (Refused y) hand) y (sets f) comes
    stops f answers (Paused y) begins got (inr comes) serves hand rests = absurd comes
    stops f answers (Paused y) begins got (inl due) serves hand rests =
        let req = base_request v (Some f) (Err (Paused y)) in
        let came = serves_came v w req (missed n (Paused y)) serves in
        let alive = alive_between v a w d before (own_alive v w x d req (missed n (Paused y)) stands refl own_lives serves (mild_request v (Some f) (Err (Paused y))).destroys) in
        let keeps = begins.keeps a answers before same (subst (λ (e : Stop). Acquired a f d 4 w answers (Err e)) (is_due (Paused y) due) got) alive
        (stands_stay stays v w x p req (missed n (Paused y)) stands serves (mild_request v (Some f) (Err (Paused y))) (missed_nothing n (Paused y)) rests (second_stopped f (Paused y) hand) stands.unkept)
        (first_there stays v w x stands came rests 0 (first_same v w hand settled.first)) in
        inr (subst (λ (o : Post). KeepsTable f (domain_of o.machine o.vcpu) 4 w x) (sym (came_post v w came)) keeps)

  -- ---- the whole
  pub sets_base : (new : Option ℕ) (answers : List Bool) (answer : Result (Unit {0}) Stop) → Starts v w x new → ServesBase v w which new answer → LeavesBase v w new answer → Rests w → SetsBase v w which new answers answer →
      Comes (KeepsTop new) w x (set_base n d k new x) answer
  sets_base _ _ _ starts serves hand rests (course.SetsBase.spent new saw) = absurd (clock_below v v w w _ (came_self v) (came_self w) fair.clock saw refl)
  sets_base _ _ _ starts serves hand rests (unacquired a f clock answers stop saw off got) =
      stops a clock saw f answers stop starts got (starts.comes a w answers (Err stop) (before a clock saw) (same a clock saw) (came_self w) got) serves hand rests
  sets_base _ _ _ starts serves hand rests (installed a b clock new answers more saw off top inst) = done a clock saw new starts b answers more top inst serves hand rests
