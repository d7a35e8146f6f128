-- A turn of a destruction by the only vCPU comes to its plain meaning.
use Rattle.std.proofs.Common.{◌≡◌, ◌≢◌, ℕ, ◌<◌, ◌≤◌, ◌==◌, if◌then◌else◌, Bool, true, false, List, [], ◌∷◌, ◌++◌, append_assoc, length, Some, None, Result, Ok, Err, refl, sym, ap, ◌∙◌, subst, inl, inr, arith}
use Rattle.std.proofs.lemmas.List.{append-nil}
use Rattle.xp_words.specs.Machine.{Machine}
use Rattle.xp_words.specs.declared.place.Place.TheVariants.{Life}
use Rattle.xp_words.specs.declared.reply.LogLine.{LogLine}
use Rattle.xp_words.specs.declared.reply.Refusal.{Refusal}
use Rattle.xp_words.specs.declared.reply.Stop.{Stop}
use Rattle.xp_board.specs.Acts.{left_by}
use Rattle.xp_board.specs.Readings.{domain_of}
use Rattle.xp_board.specs.Told.{Post, PortValue, is_telling, told_word}
use Rattle.xp_board.specs.declared.step.Act.TheVariants.{Store}
use Rattle.xp_board.specs.declared.step.StepKind.TheVariants as kinds
use Rattle.step_maker.specs.Holds.{Rests}
use Rattle.step_maker.specs.Moves.{Came, Moves}
use Rattle.step_maker.specs.Plain.{change}
use Rattle.step_maker.proofs.Alikes.{same_alike}
use Rattle.step_maker.proofs.Coming.{came_post, moves_came}
use Rattle.step_maker.proofs.Piecing.{serves_came}
use Rattle.step_maker.proofs.Telling.{leaves, told_here}
use Rattle.answer_laws.proofs.Shared.{alone_telling}
use Rattle.course_laws.proofs.Awaiting.{AloneStays, NeitherLostNorBusy}
use Rattle.replay_laws.specs.Replays.{SameWords}
use Rattle.table_words.specs.OldWords.{old_place}
use Rattle.table_words.specs.declared.old_words.OldWord.TheVariants.{First}
use Rattle.table_law.specs.Plain.{Describes, Plain}
use Rattle.release_laws.specs.Pauses.{IsLeft}
use Rattle.domain_destroy.specs.Asking.{ServesDestroy}
use Rattle.domain_destroy.specs.Course as course
use Rattle.domain_destroy.specs.Course.{Destroys, LeftFrame, left_lines}
use Rattle.domain_destroy.specs.Destroying.{DomainDestroyed}
use Rattle.domain_destroy.specs.declared.place.DestroyAt.{DestroyAt}
use Rattle.domain_destroy.specs.declared.place.DestroyAt.TheVariants.{Begins, Stops, Empties, Clears, Checks, Lists}
use Rattle.domain_destroy.proofs.Lines.{lines_then}
use Rattle.script_law.specs.Destroying.{buried, destroy, destroy_refusal, left_below, stripped}
use Rattle.script_law.specs.Repeats.{each_below}
use Rattle.script_law.specs.Values.{Numbers, Outcome, Solo, Whose, allowed, stopped, with_frames}
use Rattle.solo_ports.specs.Coming.{IsRefusedSo}
use Rattle.solo_ports.specs.Standing.{Clean, Owes, ShowsOthers, a_release, nothing, whose}
use Rattle.solo_ports.proofs.Along.{clean_on}
use Rattle.solo_ports.proofs.Staying.{others_with, stands_at}
use Rattle.solo_deaths.specs.Between.{Between}
use Rattle.solo_deaths.specs.Dying.{AreLeft, ComesDying, GoesOnDying, IsDestroyedSo, IsOtherThen, IsPausedSo, destroy_rest, lines_to, stripped_at}
use Rattle.solo_deaths.proofs.Advancing.{IsBegun, IsPaused, Reached}
use Rattle.solo_deaths.proofs.Deeds.{others_stay, with_life}
use Rattle.solo_deaths.proofs.Given.{PausedReleaseLeaves, ReleaseLeaves}
use Rattle.solo_deaths.proofs.Going as going
use Rattle.solo_deaths.proofs.Going.{HasBegun, IsAllowed, SoFar, StopsSo, goes}
use Rattle.solo_deaths.proofs.Places.{strip_whole}
use Rattle.solo_deaths.proofs.Standing.{between_by, telling}

-- ---- lines
none_made : (xs : List LeftFrame) → AreLeft xs [] → xs ≡ []
none_made [] a = refl
none_made (x ∷ xs) a = absurd a

-- ---- life words
put_over : (d y z e : ℕ) (l : ℕ → ℕ) (b : Bool) → (if b then y else (if b then z else l e)) ≡ (if b then y else l e)
put_over d y z e l true = refl
put_over d y z e l false = refl

-- a domain that is buried was dying by whatever word
buried_over : (n : Machine) (d y : ℕ) (p q : Plain) (s : Solo) → buried n d p (with_life d y (with_frames q s)) ≡ buried n d p s
buried_over n d y p q s =
    λ i. record {
      refusal = None;
      value = length (left_below d p n.frames);
      lines = left_below d p n.frames;
      left = record s { frames = p; lives = λ e. put_over d 255 y e s.lives (e == d) i };
    }

-- ---- places
other_by : (w : Whose) (d : ℕ) (k : DestroyAt) → d < length w.machine.page_limit → w.domain ≢ d → IsOtherThen w d k
other_by w d Begins real apart = tt
other_by w d (Stops vcpu) real apart = (real, apart)
other_by w d (Empties vcpu) real apart = (real, apart)
other_by w d (Clears frame) real apart = (real, apart)
other_by w d Checks real apart = (real, apart)
other_by w d (Lists frame left) real apart = (real, apart)

rest_begun : (w : Whose) (d : ℕ) (k : DestroyAt) (s : Solo) → IsBegun k → destroy_rest w d k s ≡ buried w.machine d (stripped_at w.machine d k s.frames) s
rest_begun w d Begins s is = absurd is
rest_begun w d (Stops vcpu) s is = refl
rest_begun w d (Empties vcpu) s is = refl
rest_begun w d (Clears frame) s is = refl
rest_begun w d Checks s is = refl
rest_begun w d (Lists frame left) s is = refl

module _ (stays : AloneStays) (neither : NeitherLostNorBusy) (leaves_plain : ReleaseLeaves) (leaves_rest : PausedReleaseLeaves) (v : PortValue) (s : Solo) (clean : Clean v s) (d op : ℕ) (at : DestroyAt) (before log : List LogLine) (o : Outcome)
    (g : GoesOnDying (whose v) d op at before log s o) where
  abbrev n : Machine
  n = v.post.machine

  abbrev end : Plain
  end = stripped_at n d at s.frames

  abbrev Begun : Type 0
  Begun = HasBegun stays neither leaves_plain leaves_rest v s clean d at g.other g.made g.lines g.counts g.inside

  -- what it comes to
  whole_by : (k : DestroyAt) → at ≡ k → IsAllowed stays neither leaves_plain leaves_rest v s clean d at g.other g.made g.lines g.counts g.inside k → o ≡ buried n d (stripped_at n d k s.frames) s
  whole_by Begins is may =
      sym g.comes ∙ ap (λ k. destroy_rest (whose v) d k s) is ∙ ap (λ r. allowed r s (buried n d (each_below n.frames (stripped d) s.frames) s)) may
      ∙ ap (λ p. buried n d p s) (sym (strip_whole d n.frames s.frames))
  whole_by (Stops vcpu) is may = sym g.comes ∙ ap (λ k. destroy_rest (whose v) d k s) is
  whole_by (Empties vcpu) is may = sym g.comes ∙ ap (λ k. destroy_rest (whose v) d k s) is
  whole_by (Clears frame) is may = sym g.comes ∙ ap (λ k. destroy_rest (whose v) d k s) is
  whole_by Checks is may = sym g.comes ∙ ap (λ k. destroy_rest (whose v) d k s) is
  whole_by (Lists frame left) is may = sym g.comes ∙ ap (λ k. destroy_rest (whose v) d k s) is

  whole : Begun → o ≡ buried n d end s
  whole has = whole_by at refl has.allowed

  module _ (w : PortValue) (log' : List LogLine) (more : List LeftFrame) (logged : log' ≡ log ++ left_lines op more) (rests : Rests w) where
    all_logged : log' ≡ before ++ left_lines op (g.made ++ more)
    all_logged = logged ∙ ap (λ xs. xs ++ left_lines op more) g.logged ∙ append_assoc before (left_lines op g.made) (left_lines op more) ∙ ap (λ xs. before ++ xs) (sym (lines_then op g.made more))

    -- ---- behind steps that serve it
    module _ {A : Type 0} (answer : Result A Stop) (serves : ServesDestroy v w d answer) where
      came : Came v w
      came = serves_came v w _ _ (serves.serves true (λ is. refl))

      post : w.post ≡ v.post
      post = came_post v w came

      -- ---- it is refused
      stopped_so : (r : Refusal) → SameWords (told_word v) (told_word w) → IsRefusedSo w r (stopped (Numbers r) s)
      stopped_so r same =
          record {
            why = Numbers r;
            is = refl;
            same = refl;
            none = refl;
            owes = nothing (clean_on stays v w s (record { came = came; words = same_alike (told_word w) (told_word v) same; empty = rests.empty }) clean);
          }

      stopped_is : at ≡ Begins → (r : Refusal) → destroy_refusal (whose v) d s ≡ Some r → o ≡ stopped (Numbers r) s
      stopped_is is r why = sym g.comes ∙ ap (λ k. destroy_rest (whose v) d k s) is ∙ ap (λ x. allowed x s (buried n d (each_below n.frames (stripped d) s.frames) s)) why

      nothing_logged : at ≡ Begins → more ≡ [] → log' ≡ before
      nothing_logged is none =
          all_logged ∙ ap (λ xs. before ++ left_lines op (g.made ++ xs)) none ∙ ap (λ xs. before ++ left_lines op (xs ++ [])) (none_made g.made (subst (λ k. AreLeft g.made (lines_to d k s.frames)) is g.lines))
          ∙ append-nil before

      refused_so : at ≡ Begins → more ≡ [] → (r : Refusal) → destroy_refusal (whose v) d s ≡ Some r → SameWords (told_word v) (told_word w) → IsRefusedSo w r o × (log' ≡ before)
      refused_so is none r why same = (subst (IsRefusedSo w r) (sym (stopped_is is r why)) (stopped_so r same), nothing_logged is none)

      -- ---- how the port stands
      module _ (has : Begun) where
        abbrev left : Plain → Solo
        left p = with_life d (told_word w (Life d)) (with_frames p s)

        others : (p : Plain) → ShowsOthers n v.post.vcpu (told_word w) (left p)
        others p =
            others_with n v.post.vcpu (told_word w) (with_life d (told_word w (Life d)) s) p
            (others_stay v w d answer s (alone_telling v clean.stands.alone) has.apart clean.stands.empty serves clean.stands.others)

        clean_at : (p : Plain) → Between v.post w p → Clean w (left p)
        clean_at p b =
            record {
              stands = stands_at stays v w s (left p) clean.stands came rests.empty b.second (others p) b.unkept;
              first = subst (λ (q : Post). told_word w (old_place q.vcpu First) ≡ 0) (sym post) b.first;
              frames = subst (λ (q : Post). Describes q.machine (told_word w) p) (sym post) b.frames;
            }

        owes_at : (p : Plain) → IsPaused v.post w p → Owes w (left p)
        owes_at p (inl b) = nothing (clean_at p b)
        owes_at p (inr b) =
            a_release b.frame b.level (stands_at stays v w s (left p) clean.stands came rests.empty b.second (others p) b.unkept) (subst (λ (q : Post). IsLeft q.machine w b.frame b.level p) (sym post) b.left)

        -- ---- it is paused
        paused_so : (to : DestroyAt) → IsBegun to → Reached n d to end (g.made ++ more) (λ p. IsPaused v.post w p) → IsPausedSo w d op to before log' o
        paused_so to is r =
            let p = r.plain in
            record {
              s = left p;
              owes = owes_at p r.port;
              apart = subst (λ (q : Post). domain_of q.machine q.vcpu ≢ d) (sym post) has.apart;
              goes_on = subst (λ (q : Post). GoesOnDying (record { machine = q.machine; domain = domain_of q.machine q.vcpu }) d op to before log' (left p) o) (sym post)
                  (record {
                    other = other_by (whose v) d to has.real has.apart;
                    comes = rest_begun (whose v) d to (left p) is ∙ ap (λ q. buried n d q (left p)) r.rest ∙ buried_over n d (told_word w (Life d)) end p s ∙ sym (whole has);
                    made = g.made ++ more;
                    logged = all_logged;
                    lines = r.lines;
                    counts = r.counts;
                    inside = r.inside;
                  });
            }

        -- ---- it is done
        module _ (u : PortValue) (frame count found : ℕ) (over : u.post.machine.frames ≤ frame) (moves : Moves u w (Life d) (Store 255) kinds.Life None found)
            (r : Reached n d (Lists frame count) end (g.made ++ more) (λ p. Between v.post u p)) where
          telling_u : is_telling u ≡ true
          telling_u = telling stays v.post u r.plain r.port

          all : frame ≡ n.frames
          all = let high : n.frames ≤ frame = subst (λ (q : Post). q.machine.frames ≤ frame) r.port.post over in let low = r.inside in omega (arith, high, low)

          between_w : Between v.post w end
          between_w =
              subst (Between v.post w) r.rest
              (between_by stays v.post u r.plain r.port w (change (Store 255) (Life d) (told_word u)) r.plain (moves_came u w _ _ _ _ _ moves) (leaves u w _ _ _ _ _ moves telling_u) (λ t k. refl)
              (record { shares = λ f low. r.port.frames.shares f low; kinds = λ f low. r.port.frames.kinds f low; cells = λ f i low few. r.port.frames.cells f i low few }) r.port.unkept)

          dead : told_word w (Life d) ≡ 255
          unfolding left_by
          dead = told_here u w _ _ _ _ _ moves telling_u

          buried_clean : Clean w (with_life d 255 (with_frames end s))
          buried_clean = subst (λ k. Clean w (with_life d k (with_frames end s))) dead (clean_at end between_w)

          ends : left_below d r.plain frame ≡ left_below d end n.frames
          ends = ap (λ p. left_below d p frame) r.rest ∙ ap (left_below d end) all

          buried_so : IsDestroyedSo w op before log' count (buried n d end s)
          buried_so =
              record {
                fine = refl;
                value = r.counts ∙ ap length ends;
                made = g.made ++ more;
                logged = all_logged;
                lines = subst (AreLeft (g.made ++ more)) ends r.lines;
                clean = buried_clean;
              }

          done_so : IsDestroyedSo w op before log' count o
          done_so = subst (IsDestroyedSo w op before log' count) (sym (whole has)) buried_so

  -- ---- a turn of it
  stopped_by : (w : PortValue) (to : DestroyAt) (log' : List LogLine) (more : List LeftFrame) (e : Stop) → log' ≡ log ++ left_lines op more → Rests w → ServesDestroy {A = ℕ} v w d (Err e) → StopsSo stays neither leaves_plain leaves_rest v s clean d at g.other g.made g.lines g.counts g.inside w to more e →
      ComesDying w d op to before log' o (Err e)
  stopped_by w to log' more e logged rests serves (going.refused is none r why plain same) =
      subst (λ (x : Stop). ComesDying w d op to before log' o (Err x)) (sym why) (refused_so w log' more logged rests (Err e) serves is none r plain same)
  stopped_by w to log' more e logged rests serves (going.paused p why is reached has) =
      subst (λ (x : Stop). ComesDying w d op to before log' o (Err x)) (sym why) (paused_so w log' more logged rests (Err e) serves has to is reached)

  buried_by : (u w : PortValue) (frame count found : ℕ) (log' : List LogLine) (more : List LeftFrame) → log' ≡ log ++ left_lines op more → Rests w → ServesDestroy {A = ℕ} v w d (Ok count) → u.post.machine.frames ≤ frame →
      Moves u w (Life d) (Store 255) kinds.Life None found → SoFar stays neither leaves_plain leaves_rest v s clean d at g.other g.made g.lines g.counts g.inside u (Lists frame count) more → IsDestroyedSo w op before log' count o
  buried_by u w frame count found log' more logged rests serves over moves (going.before here is same none) = absurd cc
  buried_by u w frame count found log' more logged rests serves over moves (going.begun is reached has) = done_so w log' more logged rests (Ok count) serves has u frame count found over moves reached

  pub by_course : (w : PortValue) (to : DestroyAt) (log' : List LogLine) (more : List LeftFrame) (answers : List Bool) (answer : Result ℕ Stop) → log' ≡ log ++ left_lines op more → Rests w → ServesDestroy v w d answer → Destroys d v at w to more answers answer →
      ComesDying w d op to before log' o answer
  by_course _ _ log' _ _ _ logged rests serves (course.Destroys.stops w to more answers e on) =
      stopped_by w to log' more e logged rests serves (goes stays neither leaves_plain leaves_rest v s clean d at g.other g.made g.lines g.counts g.inside w to more answers (Err e) on)
  by_course _ _ log' _ _ _ logged rests serves (course.Destroys.buries u w frame count found more answers on over moves) =
      buried_by u w frame count found log' more logged rests serves over moves
      (goes stays neither leaves_plain leaves_rest v s clean d at g.other g.made g.lines g.counts g.inside u (Lists frame count) more answers (Ok tt) on)

  pub comes_dying : (w : PortValue) (to : DestroyAt) (log' : List LogLine) (answers : List Bool) (answer : Result ℕ Stop) → DomainDestroyed v w d op at to log log' answers answer → ComesDying w d op to before log' o answer
  comes_dying w to log' answers answer a = by_course w to log' a.more answers answer a.lines a.rests a.serves a.course

-- a destruction begins
pub begins_dying : (w : Whose) (d op : ℕ) (log : List LogLine) (s : Solo) → GoesOnDying w d op Begins log log s (destroy w d s)
begins_dying w d op log s = record { other = tt; comes = refl; made = []; logged = sym (append-nil log); lines = tt; counts = refl; inside = omega arith }
