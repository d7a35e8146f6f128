-- The exchange of an entry of a locked table, from where its word was looked at.
use Rattle.solo_entries.specs.Exchanges.{HasTwoTypeCounts, LeavesFrames, later, now}
use Rattle.std.proofs.lemmas.Bool.{cases_Bool}
use Rattle.kind_words.proofs.KindFacts.{live_undead}
use Rattle.std.proofs.Common.{nat_lt, nat_le, ◌==◌, ◌≡◌, ◌≢◌, ◌≤◌, ◌<◌, ℕ, Bool, true, false, List, Option, Some, None, Result, Ok, Err, refl, sym, ap, ◌∙◌, subst, inl, inr, ◌+◌, IfErr}
use Rattle.xp_words.specs.Machine.{IsMachine, Machine}
use Rattle.xp_words.specs.declared.entry.Demand.{Demand}
use Rattle.xp_words.specs.declared.entry.Demand.TheVariants as demands
use Rattle.xp_words.specs.declared.kind.PageType.{PageType}
use Rattle.xp_words.specs.declared.place.Place.{Place}
use Rattle.xp_words.specs.declared.place.Place.TheVariants.{Kind}
use Rattle.xp_words.specs.declared.reply.Stop.{Stop}
use Rattle.xp_words.specs.declared.reply.Stop.TheVariants.{Paused}
use Rattle.xp_board.specs.Told.{Post, PortValue, is_telling, told_word}
use Rattle.step_maker.specs.Moves.{Came}
use Rattle.step_maker.proofs.Coming.{came_post}
use Rattle.step_maker.proofs.Telling.{came_telling}
use Rattle.entry_exchange.specs.Course as course
use Rattle.entry_exchange.specs.Course.{LeftLock, ReleasedDemand}
use Rattle.exchange_laws.proofs.Unlocking.{lock_came}
use Rattle.partial_state.specs.Levels.{level_type}
use Rattle.table_law.specs.Alone.{Cause, alone, meet, take_at, take_reference, take_reference_of}
use Rattle.table_law.specs.Plain.{Describes, Plain, Share, sober}
use Rattle.table_law.specs.Release.{drop_demand, let_go}
use Rattle.table_law.specs.Undone.{CountsSome, IsSameButType}
use Rattle.table_law.proofs.ReturningTables.{refused_same, released_same}
use Rattle.table_words.specs.OldWords.{old_place}
use Rattle.table_words.specs.declared.old_words.OldWord.TheVariants.{First, Second}
use Rattle.release_laws.specs.Pauses.{IsLeft}
use Rattle.solo_entries.proofs.Holding.{back_go, go_passes, off}
use Rattle.solo_entries.proofs.Known.{Known}
use Rattle.solo_entries.proofs.Locking.{lock_goes, lock_leaves}
use Rattle.xp_words.specs.declared.kind.KindWord.{KindWord}
use Rattle.solo_entries.proofs.Standing.{is_counting}
use Rattle.xp_words.specs.KindWords.{kind_fields}
use Rattle.table_law.proofs.Describing.{sober_live}
use Rattle.level_release.specs.Course.{WasReleased}
use Rattle.solo_entries.proofs.Released.{release_done, release_keeps}
use Rattle.solo_entries.proofs.Olds.{gave_keeps, KeepsFirst, two_four, two_five, KeepsSecond, keeps_self, three_four, three_five, three_two}
use Rattle.xp_words.specs.declared.reply.Pause.TheVariants.{Due}
use Rattle.exchange_laws.proofs.Given.{given_back}
use Rattle.exchange_laws.proofs.Releasing.{released_inside}

-- ---- a table that is held stays held behind what is taken, and behind what is refused
held_same : (f : ℕ) (p q : Plain) → IsSameButType (p.kinds f) (q.kinds f) → HasTwoTypeCounts f p → HasTwoTypeCounts f q
held_same f p q (inl same) held =
    record { live = ap (λ (k : KindWord). k.validated) same ∙ held.live; several = subst (λ (k : KindWord). 2 ≤ k.number) (sym same) held.several }
held_same f p q (inr dead) held = absurd (let a : false ≡ true = sym (live_undead (p.kinds f) held.live) ∙ dead.0 in cc)

module _ (n : Machine) (owner f : ℕ) (p : Plain) (counts : CountsSome n p) (held : HasTwoTypeCounts f p) where
  held_alone : (l g : ℕ) → HasTwoTypeCounts f (alone n owner l g p).left
  held_alone l g = by (alone n owner l g p).refusal refl
    where
      by : (r : Option Cause) → (alone n owner l g p).refusal ≡ r → HasTwoTypeCounts f (alone n owner l g p).left
      by None none = back_go f l g (alone n owner l g p).left (held_same f p (let_go l g (alone n owner l g p).left) ((released_same n owner l g p counts none).kinds f) held)
      by (Some c) is = held_same f p (alone n owner l g p).left ((refused_same n owner l g p c counts is).kinds f) held

  kinds_of : (g : ℕ) (o : Option Share) → (take_reference_of n owner g p o).left.kinds ≡ p.kinds
  kinds_of g None = refl
  kinds_of g (Some s) = elim (cases_Bool (s.owner == owner)) [
    | inr apart ↦ rw apart refl
    | inl own ↦ rw own (elim (cases_Bool (nat_le n.limit s.count)) [ inl full ↦ rw full refl | inr room ↦ rw room refl ])
  ]

  kinds_reference : (g : ℕ) → (take_reference n owner g p).left.kinds ≡ p.kinds
  kinds_reference g = elim (cases_Bool (nat_lt g n.frames)) [
    | inl inside ↦ rw inside (kinds_of g (p.shares g))
    | inr out ↦ rw out refl
  ]

  held_reference : (g : ℕ) → HasTwoTypeCounts f (take_reference n owner g p).left
  held_reference g = held_same f p (take_reference n owner g p).left (inl (ap (λ (j : ℕ → KindWord). j f) (kinds_reference g))) held

  pub held_meet : (l h i : ℕ) (d : Demand) → HasTwoTypeCounts f (meet n owner (take_at l n owner) h i p d).left
  held_meet l h i demands.Nothing = held
  held_meet l h i demands.Bad = held
  held_meet l h i (demands.Read g) = held_reference g
  held_meet l h i (demands.Typed g t) = held_alone l g

-- ---- the lock goes off, behind what was refused
module _ (k : Known) (n : Machine) (z w : PortValue) (f level : ℕ) (q : Plain) (same : z.post.machine ≡ n) (telling : is_telling z ≡ true) (low : 1 ≤ level) (held : HasTwoTypeCounts f q) (off_it : LeftLock z f level w) where
  came : Came z w
  came = lock_came z w f level off_it

  post_same : w.post ≡ z.post
  post_same = came_post z w came

  -- the plain value whose words are there
  word_same : (p : Plain) → Describes n (told_word z) p → HasTwoTypeCounts f p → (x : Place) → is_counting x ≡ false → x ≢ Kind f → told_word w x ≡ told_word z x
  word_same p d h x calm apart = lock_leaves n z w f level p same telling d h off_it x calm apart

  unlocked_now : told_word z (old_place z.post.vcpu First) ≡ 0 → Describes n (told_word z) q → LeavesFrames n w (off f q)
  unlocked_now first d =
      now (subst (λ (o : Post). told_word w (old_place o.vcpu First) ≡ 0) (sym post_same) (word_same q d held (old_place z.post.vcpu First) refl (λ e. cc) ∙ first)) (lock_goes n z w f level q same telling d held low off_it)

  -- an unfinished release of frame g, which is another one
  unlocked_later : (g l : ℕ) → IsLeft n z g l q → LeavesFrames n w (off f q)
  unlocked_later g l left =
      let p = left.plain in
      let h : HasTwoTypeCounts f p = back_go f l g p (subst (HasTwoTypeCounts f) (sym left.left) held) in
      let apart : g ≢ f = λ e. (
      let a : p.kinds f ≡ sober (kind_fields (told_word z (Kind g))) = ap p.kinds (sym e) ∙ left.describes.kinds g left.inside in
      let b : (p.kinds f).validated ≡ false = ap (λ (j : KindWord). j.validated) a ∙ (sober_live (kind_fields (told_word z (Kind g))) ∙ ap (λ (j : KindWord). j.validated) left.word) in
      let c : false ≡ true = sym b ∙ h.live in
      cc) in
      later g l
      (record {
        machine = ap (λ (o : Post). o.machine) post_same ∙ left.machine;
        telling = came_telling z w came ∙ left.telling;
        plain = off f p;
        describes = lock_goes n z w f level p same telling left.describes h low off_it;
        held = left.held;
        few = left.few;
        stamp = left.stamp;
        word = ap kind_fields (word_same p left.describes h (Kind g) refl (λ e. apart cc)) ∙ left.word;
        inside = left.inside;
        low = left.low;
        high = left.high;
        left = go_passes f l g p (subst (HasTwoTypeCounts f) (sym left.left) held) ∙ ap (off f) left.left;
        named = subst (λ (o : Post). told_word w (old_place o.vcpu First) ≡ g + 1) (sym post_same) (word_same p left.describes h (old_place z.post.vcpu First) refl (λ e. cc) ∙ left.named);
      })

  pub unlocked_left : LeavesFrames n z q → LeavesFrames n w (off f q)
  unlocked_left (now first d) = unlocked_now first d
  unlocked_left (later g l left) = unlocked_later g l left

  -- the second old word, too
  pub unlocked_second : LeavesFrames n z q → told_word w (old_place z.post.vcpu Second) ≡ told_word z (old_place z.post.vcpu Second)
  unlocked_second (now first d) = word_same q d held (old_place z.post.vcpu Second) refl (λ e. cc)
  unlocked_second (later g l left) = word_same left.plain left.describes (back_go f l g left.plain (subst (HasTwoTypeCounts f) (sym left.left) held)) (old_place z.post.vcpu Second) refl (λ e. cc)

-- ---- a reference, or a typed one, that the old word had is given back
module _ (k : Known) (n : Machine) (v : PortValue) (machine : IsMachine n) (same : v.post.machine ≡ n) (telling : is_telling v ≡ true) (l : ℕ) (high : l ≤ 4) (p : Plain) (first : told_word v (old_place v.post.vcpu First) ≡ 0) (d : Describes n (told_word v) p) where
  first_there : (w : PortValue) → KeepsFirst v w → told_word w (old_place w.post.vcpu First) ≡ 0
  first_there w keeps = let a = keeps telling in subst (λ (o : Post). told_word w (old_place o.vcpu First) ≡ 0) (sym (came_post v w a.came)) (a.same ∙ first)

  there : Describes v.post.machine (told_word v) p
  there = subst (λ (j : Machine). Describes j (told_word v) p) (sym same) d

  done_left : (w : PortValue) (g : ℕ) (answers : List Bool) → g < v.post.machine.frames → WasReleased v g (level_type l) w answers (Ok tt) → LeavesFrames n w (let_go l g p)
  done_left w g answers inside was =
      now (first_there w (release_done v.post.vcpu 2 two_four two_five v w g (level_type l) answers was))
      (subst (λ (j : Machine). Describes j (told_word w) (let_go l g p)) same (k.releases v w g l answers p (subst IsMachine (sym same) machine) telling inside high there was))

  paused_left : (w : PortValue) (g : ℕ) (answers : List Bool) → g < v.post.machine.frames → WasReleased v g (level_type l) w answers (Err (Paused Due)) → LeavesFrames n w (let_go l g p)
  paused_left w g answers inside was = later g l (subst (λ (j : Machine). IsLeft j w g l (let_go l g p)) same (k.pauses v w g l answers p telling inside high there was))

  released_left : (w : PortValue) (g : ℕ) (answers : List Bool) (r : Result (Unit {0}) Stop) → WasReleased v g (level_type l) w answers r → IfErr r (λ stop. stop ≡ Paused Due) → LeavesFrames n w (let_go l g p)
  released_left w g answers (Ok done) was is = done_left w g answers (released_inside v g (level_type l) w answers (Ok done) telling was) was
  released_left w g answers (Err stop) was is =
      paused_left w g answers (released_inside v g (level_type l) w answers (Err stop) telling was) (subst (λ e. WasReleased v g (level_type l) w answers (Err e)) is was)

  pub demand_left : (e : Demand) (w : PortValue) (answers : List Bool) → ((g : ℕ) (t : PageType) → e ≡ demands.Typed g t → t ≡ level_type l) → ReleasedDemand v e w answers → LeavesFrames n w (drop_demand (let_go l) p e)
  demand_left _ _ _ asks course.nothing = now first d
  demand_left _ _ _ asks course.bad = now first d
  demand_left _ _ _ asks (course.referred w g gave) = now (first_there w (gave_keeps v.post.vcpu 2 two_four two_five v w g gave)) (given_back n v w g p same telling d gave)
  demand_left _ _ _ asks (course.released w g t answers r was is) = released_left w g answers r (subst (λ j. WasReleased v g j w answers r) (asks g t refl) was) is

-- and the second old word stays
pub given_keeps : (v : PortValue) (e : Demand) (w : PortValue) (answers : List Bool) → ReleasedDemand v e w answers → KeepsSecond v w
given_keeps v _ _ _ course.nothing = keeps_self v.post.vcpu 3 three_four three_five v
given_keeps v _ _ _ course.bad = keeps_self v.post.vcpu 3 three_four three_five v
given_keeps v _ _ _ (course.referred w g gave) = gave_keeps v.post.vcpu 3 three_four three_five v w g gave
given_keeps v _ _ _ (course.released w g t answers r was is) = release_keeps v.post.vcpu 3 three_four three_five three_two v g t w answers r was

pub given_came : (v : PortValue) (e : Demand) (w : PortValue) (answers : List Bool) → is_telling v ≡ true → ReleasedDemand v e w answers → Came v w
given_came v e w answers telling gone = (given_keeps v e w answers gone telling).came
