-- The own flush that was made: what its steps found and left.
use Rattle.std.proofs.Common.{◌≡◌, ◌≢◌, ℕ, ◌+◌, ◌<◌, ◌≤◌, ◌&&◌, ◌==◌, nat_le, nat_lt, Bool, true, List, [], ◌∷◌, length, Some, None, Ok, Err, Result, IsTrue, refl, sym, ap, ◌∙◌, subst, inl, inr, arith}
use Rattle.std.proofs.lemmas.Bool.{and_parts}
use Rattle.xp_words.specs.declared.place.Place.TheVariants.{Clock, Kind}
use Rattle.xp_words.specs.declared.reply.Refusal.{Refusal}
use Rattle.xp_words.specs.KindWords.{kind_fields}
use Rattle.xp_words.specs.Places.{sizes_of, place_at, flushed_of}
use Rattle.xp_board.specs.declared.step.Act.TheVariants.{Load, Cas, Store}
use Rattle.xp_board.specs.declared.step.StepKind.TheVariants as kinds
use Rattle.xp_board.specs.declared.holdings.Made.{Made}
use Rattle.xp_board.specs.declared.holdings.Work.{Work}
use Rattle.xp_board.specs.declared.holdings.Holdings.{Holdings}
use Rattle.xp_board.specs.Acts.{left_by}
use Rattle.xp_board.specs.Hands.{work_on}
use Rattle.xp_board.specs.Lists.{EachOf}
use Rattle.xp_board.specs.Readings.{last_clock, clock_value, kind_stamp}
use Rattle.xp_board.specs.Steps.{is_at, left_of, some_step, some_since}
use Rattle.xp_board.specs.Told.{Post, PortValue}
use Rattle.xp_board.proofs.KindForms.{marked_unlive}
use Rattle.xp_board.proofs.KindReadings.{stamp_of}
use Rattle.xp_board.proofs.PlaceTests.{same_place, equal_by}
use Rattle.xp_board.proofs.StepLists.{head_or_tail}
use Rattle.xp_board.proofs.WorkFacts.{works_facts}
use Rattle.xp_board.proofs.HandLists.{EachOf-map}
use Rattle.step_maker.specs.Moves.{Moves, Came, Met}
use Rattle.step_maker.proofs.Coming.{came_trans, came_self, came_post, moves_came, moves_by, moment_of}
use Rattle.step_maker.proofs.Noting.{moves_since}
use Rattle.step_maker.specs.Visits.{Visit, visit, Does, Only, Then}
use Rattle.step_maker.proofs.Visiting.{does_as, does_one, does_then}
use Rattle.step_maker.specs.Finding.{Did}
use Rattle.step_maker.specs.Reasons.{HadClock, Whose}
use Rattle.step_maker.specs.Pauses.{Clear, own}
use Rattle.xp_words.specs.declared.reply.Refusal.TheVariants as refusals
use Rattle.xp_words.proofs.Shared.{lt_true as less_is}
use Rattle.flush_words.specs.Flushing.{FlushedBy, FlushesOwn, none, once, spent, ticked, overtaken}
use Rattle.flush_words.proofs.Lasting.{came_longer}
use Rattle.flush_words.proofs.OwnFlush.{all_below, clock_less, to_next, to_found}

-- v loads the clock, `loaded` exchanges it, and `exchanged` stores what the clock was then
pub record Flushed (v w : PortValue) : Type 0 where
  pub loaded : PortValue
  pub exchanged : PortValue
  pub clock : ℕ
  pub found : ℕ
  pub to : ℕ
  pub before : ℕ
  pub some : clock ≢ last_clock
  pub look : Moves v loaded Clock Load kinds.Look None clock
  pub tick : Moves loaded exchanged Clock (Cas clock (clock + 1)) kinds.Tick None found
  pub left : left_by (Cas clock (clock + 1)) found ≡ to
  pub ack : Moves exchanged w (flushed_of v.post.vcpu) (Store to) kinds.Ack None before

own_by : (v w : PortValue) (o : Result (Unit {0}) Refusal) → o ≡ Ok tt → FlushesOwn v w o → Flushed v w
own_by v w (Ok tt) e (ticked a b clock before some look tick ack) =
    record { loaded = a; exchanged = b; clock = clock; found = clock; to = clock + 1; before = before; some = some; look = look; tick = tick; left = to_next clock; ack = ack }
own_by v w (Ok tt) e (overtaken a b clock found before some off look tick ack) =
    record { loaded = a; exchanged = b; clock = clock; found = found; to = found; before = before; some = some; look = look; tick = tick; left = to_found clock found off; ack = ack }
own_by v w (Err r) e f = absurd cc

pub own_flushed : (v w : PortValue) → FlushesOwn v w (Ok tt) → Flushed v w
own_flushed v w f = own_by v w (Ok tt) refl f

-- ---- the steps are one behind the other
ticks_came : (v a b : PortValue) (c f : ℕ) → Moves v a Clock Load kinds.Look None c → Moves a b Clock (Cas c (c + 1)) kinds.Tick None f → Came v b
ticks_came v a b c f look tick = came_trans v a b (moves_came v a Clock Load kinds.Look None c look) (moves_came a b Clock (Cas c (c + 1)) kinds.Tick None f tick)

pub flushed_came : (v w : PortValue) → Flushed v w → Came v w
flushed_came v w f =
    came_trans v f.exchanged w (ticks_came v f.loaded f.exchanged f.clock f.found f.look f.tick) (moves_came f.exchanged w (flushed_of v.post.vcpu) (Store f.to) kinds.Ack None f.before f.ack)

pub own_came : (v w : PortValue) (answer : Result (Unit {0}) Refusal) → FlushesOwn v w answer → Came v w
own_came v w (Ok tt) f = flushed_came v w (own_flushed v w f)
own_came v w (Err r) (spent m) = moves_came v w Clock Load kinds.Look None last_clock m

flushed_does : (v w : PortValue) → Flushed v w → Does v w (λ vs. FlushedBy v.post.vcpu (Ok tt) vs)
flushed_does v w f =
    does_as v w _ (λ vs. FlushedBy v.post.vcpu (Ok tt) vs) (λ vs steps. three_are _ _ _ vs (λ ws. FlushedBy v.post.vcpu (Ok tt) ws) (once f.clock f.found f.to f.before f.some f.left) steps)
    (does_then v f.loaded w (Only (visit Clock Load f.clock)) (Then (Only (visit Clock (Cas f.clock (f.clock + 1)) f.found)) (Only (visit (flushed_of v.post.vcpu) (Store f.to) f.before))) (does_one v f.loaded _ _ _ _ _ f.look)
    (does_then f.loaded f.exchanged w (Only (visit Clock (Cas f.clock (f.clock + 1)) f.found)) (Only (visit (flushed_of v.post.vcpu) (Store f.to) f.before)) (does_one f.loaded f.exchanged _ _ _ _ _ f.tick)
    (does_one f.exchanged w _ _ _ _ _ f.ack)))
  where
    three_are : (one two three : Visit) (vs : List Visit) (P : List Visit → Type 0) → P (three ∷ (two ∷ (one ∷ []))) → Then (Only one) (Then (Only two) (Only three)) vs → P vs
    three_are one two three vs P p t = subst P (sym (is one two three vs t)) p
      where
        is : (one two three : Visit) (vs : List Visit) → Then (Only one) (Then (Only two) (Only three)) vs → vs ≡ three ∷ (two ∷ (one ∷ []))
        is one two three vs t = rw (t.list, t.first, t.next.list, t.next.first, t.next.next) refl

pub own_does : (v w : PortValue) (answer : Result (Unit {0}) Refusal) → FlushesOwn v w answer → Does v w (λ vs. FlushedBy v.post.vcpu answer vs)
own_does v w (Ok tt) f = flushed_does v w (own_flushed v w f)
own_does v w (Err r) (spent m) =
    does_as v w _ (λ vs. FlushedBy v.post.vcpu (Err (refusals.Clock last_clock)) vs) (λ vs one. subst (λ ws. FlushedBy v.post.vcpu (Err (refusals.Clock last_clock)) ws) (sym one) none) (does_one v w Clock Load kinds.Look None last_clock m)

-- a step of a list that passes a test
pub EachOf-some : (P : Made → Type 0) (test : ℕ → Made → Bool) (xs : List Made) → EachOf P xs → IsTrue (some_step test xs) → (Q : Type 0) → ((k : ℕ) (x : Made) → IsTrue (test k x) → P x → Q) → Q
unfolding EachOf some_step
EachOf-some P test [] e h Q use_it = absurd cc
EachOf-some P test (x ∷ xs) e h Q use_it =
    elim (head_or_tail test x xs h) [
      | inl here ↦ use_it (length xs) x here e.0
      | inr there ↦ EachOf-some P test xs e.1 there Q use_it
    ]

module _ (v w : PortValue) (f : Flushed v w) where
  before_ack : Came v f.exchanged
  before_ack = ticks_came v f.loaded f.exchanged f.clock f.found f.look f.tick

  exchanged_post : f.exchanged.post ≡ v.post
  exchanged_post = came_post v f.exchanged before_ack

  -- the own flush was stored
  pub flushed_did : Did (Met v w) (flushed_of v.post.vcpu) (Store f.to) f.before
  unfolding moment_of
  flushed_did =
      record {
        moment = moment_of f.exchanged (flushed_of v.post.vcpu) (Store f.to) kinds.Ack None f.before;
        was = record {
          from = f.exchanged;
          to = w;
          before = before_ack;
          moved = moves_by f.exchanged w (flushed_of v.post.vcpu) (Store f.to) kinds.Ack None f.before f.ack;
          after = came_self w;
        };
        place = refl;
        act = refl;
        word = refl;
      }

  pub flushed_clear : (whose : Whose) (stamp : ℕ) → stamp < f.to → Clear v.post.machine v.post.vcpu whose stamp (Met v w) v.post.vcpu
  flushed_clear whose stamp less = own f.to f.before refl flushed_did less

  -- it is later than the clock that was found, and so than each clock value and stamp that the vCPU had found or left
  clock_under : f.clock < f.to
  clock_under = clock_less v f.loaded f.exchanged f.clock f.found f.look f.tick f.to f.left

  under : (x : ℕ) → x ≤ f.look.finds.words Clock → x < f.to
  under x l =
      let is = f.look.finds.word in
      let less = clock_under in
      omega (arith, is, less, l)

  pub flushed_above : EachOf (λ (x : Made). (clock_value (place_at (sizes_of v.post.machine) x.step.place) x.found < f.to) × (clock_value (place_at (sizes_of v.post.machine) x.step.place) (left_of x) < f.to)) v.holdings.steps
  flushed_above = EachOf-map _ _ v.holdings.steps (λ x l. (under _ l.0, under _ l.1)) (all_below v.post.machine v.post.vcpu v.holdings Clock f.clock f.look.finds)

  -- a marked frame in the own works was marked before
  pub marked_less : (g : ℕ) (e : Work) → work_on g v.holdings.works ≡ Some e → (kind_fields e.word).unflushed ≡ true → (kind_fields e.word).number < f.to
  marked_less g e here marked =
      let m = f.look.finds.words in
      let sound = f.look.finds.sound in
      let word = (works_facts v.post.machine m f.look.finds.hands v.post.vcpu g e sound f.look.finds.real (subst (λ (u : Holdings). work_on g u.works ≡ Some e) (sym f.look.finds.mine) here)).word in
      let unlive = marked_unlive v.post.machine m g sound.spelled (ap (λ x. (kind_fields x).unflushed) word ∙ marked) in
      let number : kind_stamp (m (Kind g)) ≡ (kind_fields e.word).number = stamp_of (m (Kind g)) (kind_fields e.word) (ap kind_fields word) (ap (λ x. (kind_fields x).validated) (sym word) ∙ unlive) in
      subst (λ y. y < f.to) number (under _ (sound.stamped.kinds g))

  -- the steps show it
  pub flushed_since : (k stamp : ℕ) → k ≤ length v.holdings.steps → stamp < f.to → IsTrue (some_since (sizes_of v.post.machine) k (flushed_of v.post.vcpu) (λ y. nat_lt stamp y) w.holdings.steps)
  unfolding left_by
  flushed_since k stamp late less =
      let more = came_longer v f.exchanged before_ack in
      subst (λ (q : Post). IsTrue (some_since (sizes_of q.machine) k (flushed_of v.post.vcpu) (λ y. nat_lt stamp y) w.holdings.steps)) exchanged_post
      (moves_since f.exchanged w (flushed_of v.post.vcpu) (Store f.to) kinds.Ack None f.before f.ack k (λ y. nat_lt stamp y) (omega (arith, late, more)) (less_is stamp f.to less))

  -- it is later than a clock value that the vCPU had found
  pub had_less : (stamp : ℕ) → HadClock v.post.machine stamp v.holdings → stamp < f.to
  unfolding clock_value
  had_less stamp had =
      EachOf-some _ (λ k x. nat_le 0 k && (is_at (sizes_of v.post.machine) Clock x && (left_of x == stamp))) v.holdings.steps flushed_above had (stamp < f.to)
      (λ k x test less.
      let a = and_parts (nat_le 0 k) _ test in
      let b = and_parts (is_at (sizes_of v.post.machine) Clock x) (left_of x == stamp) a.1 in
      subst (λ y. y < f.to) (equal_by _ _ b.1) (subst (λ q. clock_value q (left_of x) < f.to) (same_place _ Clock b.0) less.1))
