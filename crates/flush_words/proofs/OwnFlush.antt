-- The own flush: when it may be made.
use Rattle.std.proofs.Common.{◌≡◌, ◌≢◌, ℕ, ◌+◌, ◌<◌, ◌≤◌, ◌==◌, nat_lt, ◌∷◌, List, length, None, Ok, Err, IsTrue, refl, sym, ap, ◌∙◌, subst, arith}
use Rattle.std.proofs.lemmas.Bool.Decides.{nat_tests}
use Rattle.xp_words.specs.Machine.{Machine}
use Rattle.xp_words.specs.declared.place.Place.{Place}
use Rattle.xp_words.specs.declared.place.Place.TheVariants.{Clock}
use Rattle.xp_words.specs.Places.{Sizes, sizes_of, place_at, flushed_of}
use Rattle.xp_words.specs.declared.reply.Refusal.TheVariants as refusals
use Rattle.xp_words.proofs.PlaceLaws.{place_back}
use Rattle.xp_words.proofs.Shared.{lt_true as less_is, eq_false as when_ne}
use Rattle.xp_board.specs.declared.step.Act.TheVariants.{Load, Cas, Store}
use Rattle.xp_board.specs.declared.step.StepKind.TheVariants as kinds
use Rattle.xp_board.specs.declared.holdings.Made.{Made}
use Rattle.xp_board.specs.declared.holdings.Holdings.{Holdings}
use Rattle.xp_board.specs.Acts.{left_by}
use Rattle.xp_board.specs.Found.{ClockFound}
use Rattle.xp_board.specs.Lists.{EachOf}
use Rattle.xp_board.specs.Readings.{last_clock, clock_value}
use Rattle.xp_board.specs.Spelling.{IsSpelling}
use Rattle.xp_board.specs.Steps.{left_of, some_since}
use Rattle.xp_board.specs.Told.{Post, PortValue, Finds}
use Rattle.xp_board.specs.WellFormed.{WellFormed}
use Rattle.xp_board.proofs.Sums.{when_eq}
use Rattle.step_maker.specs.Moves.{Moves, step_at}
use Rattle.step_maker.proofs.Noting.{made_now, moves_steps, moves_since, moves_keeps}
use Rattle.flush_words.specs.Flushing.{MayFlushTo, FlushesOwn, spent, ticked, overtaken}
use Rattle.flush_words.proofs.RowSteps.{clock_there}

-- ---- what a step tells of the vCPU that made it
module _ (n : Machine) (s : ℕ) (h : Holdings) (p : Place) (w : ℕ) (finds : Finds n s h p w) where
  formed : WellFormed n s h
  formed = subst (λ u. WellFormed n s u) finds.mine (finds.sound.formed s finds.real)

  pub acked_past : h.acked ≤ length h.steps
  acked_past = formed.acked

  pub ran_past : h.ran ≤ length h.steps
  ran_past = formed.ran

  -- the clock was then at least each clock value and stamp that the vCPU had found or left
  pub all_below : EachOf (λ x. (clock_value (place_at (sizes_of n) x.step.place) x.found ≤ finds.words Clock) × (clock_value (place_at (sizes_of n) x.step.place) (left_of x) ≤ finds.words Clock)) h.steps
  all_below = subst (λ (k : Holdings). ClockFound (sizes_of n) finds.words k) finds.mine (finds.sound.found s finds.real).clock

pub clock_low : (n : Machine) (s : ℕ) (h : Holdings) (c : ℕ) → Finds n s h Clock c → c ≤ last_clock
unfolding IsSpelling
clock_low n s h c finds = (subst (λ w. IsSpelling n Clock w) finds.word (finds.sound.spelled.spelled Clock (clock_there (sizes_of n)))).1

pub clock_below : (v w : PortValue) (c : ℕ) → Moves v w Clock Load kinds.Look None c → c ≢ last_clock → c < last_clock
clock_below v w c m off = let low = clock_low v.post.machine v.post.vcpu v.holdings c m.finds in grind arith

-- ---- the clock that was found is not above the one that is found later
clock_head : (z : Sizes) (words : Place → ℕ) (x : Made) (xs : List Made) → place_at z x.step.place ≡ Clock →
    EachOf (λ y. (clock_value (place_at z y.step.place) y.found ≤ words Clock) × (clock_value (place_at z y.step.place) (left_of y) ≤ words Clock)) (x ∷ xs) → x.found ≤ words Clock
unfolding EachOf clock_value
clock_head z words x xs at each = subst (λ p. clock_value p x.found ≤ words Clock) at each.0.0

greater_by : (c f : ℕ) → c ≤ f → c < left_by (Cas c (c + 1)) f
unfolding left_by
greater_by c f l = grind (arith, nat_tests)

pub to_next : (c : ℕ) → left_by (Cas c (c + 1)) c ≡ c + 1
unfolding left_by
to_next c = rw (when_eq c c refl) refl

pub to_found : (c f : ℕ) → f ≢ c → left_by (Cas c (c + 1)) f ≡ f
unfolding left_by
to_found c f off = rw (when_ne f c off) refl

module _ (v a b : PortValue) (c f : ℕ) (look : Moves v a Clock Load kinds.Look None c) (tick : Moves a b Clock (Cas c (c + 1)) kinds.Tick None f) where
  pub clock_later : c ≤ f
  clock_later =
      let n = a.post.machine in
      let at : place_at (sizes_of n) (step_at v.post.machine Clock Load kinds.Look None).place ≡ Clock =
      ap (λ (y : PortValue). place_at (sizes_of y.post.machine) (step_at v.post.machine Clock Load kinds.Look None).place) look.to ∙ place_back (sizes_of v.post.machine) Clock look.may.place in
      subst (λ y. c ≤ y) tick.finds.word
      (clock_head (sizes_of n) tick.finds.words (made_now (step_at v.post.machine Clock Load kinds.Look None) c) v.holdings.steps at
      (subst (λ (xs : List Made). EachOf (λ y. (clock_value (place_at (sizes_of n) y.step.place) y.found ≤ tick.finds.words Clock) × (clock_value (place_at (sizes_of n) y.step.place) (left_of y) ≤ tick.finds.words Clock)) xs)
      (moves_steps v a Clock Load kinds.Look None c look) (all_below n a.post.vcpu a.holdings Clock f tick.finds)))

  -- the clock that the exchange left is above the one that the load found
  module _ (x : ℕ) (to : left_by (Cas c (c + 1)) f ≡ x) where
    pub clock_less : c < x
    clock_less = subst (λ y. c < y) to (greater_by c f clock_later)

    flush_found : IsTrue (some_since (sizes_of b.post.machine) b.holdings.acked Clock (λ w. w == x) b.holdings.steps)
    flush_found =
        let late : b.holdings.acked ≤ length a.holdings.steps =
        subst (λ k. k ≤ length a.holdings.steps) (sym (ap (λ (y : PortValue). y.holdings.acked) tick.to)) (acked_past a.post.machine a.post.vcpu a.holdings Clock f tick.finds) in
        subst (λ (n : Machine). IsTrue (some_since (sizes_of n) b.holdings.acked Clock (λ w. w == x) b.holdings.steps)) (sym (ap (λ (y : PortValue). y.post.machine) tick.to))
        (moves_since a b Clock (Cas c (c + 1)) kinds.Tick None f tick b.holdings.acked (λ w. w == x) late (when_eq _ x to))

    flush_warmed : IsTrue (some_since (sizes_of b.post.machine) b.holdings.ran Clock (λ w. nat_lt w x) b.holdings.steps)
    unfolding left_by
    flush_warmed =
        let late : b.holdings.ran ≤ length v.holdings.steps =
        subst (λ k. k ≤ length v.holdings.steps) (sym (ap (λ (y : PortValue). y.holdings.ran) tick.to ∙ ap (λ (y : PortValue). y.holdings.ran) look.to)) (ran_past v.post.machine v.post.vcpu v.holdings Clock c look.finds) in
        subst (λ (n : Machine). IsTrue (some_since (sizes_of n) b.holdings.ran Clock (λ w. nat_lt w x) b.holdings.steps)) (sym (ap (λ (y : PortValue). y.post.machine) tick.to ∙ ap (λ (y : PortValue). y.post.machine) look.to))
        (moves_keeps a b Clock (Cas c (c + 1)) kinds.Tick None f tick _ (moves_since v a Clock Load kinds.Look None c look b.holdings.ran (λ w. nat_lt w x) late (less_is c x clock_less)))

    pub may_flush : v.holdings.walk ≡ None → MayFlushTo b.post.machine x b.holdings
    may_flush landed =
        record {
          was_found = flush_found;
          warmed = λ cold. flush_warmed;
          landed = ap (λ (y : PortValue). y.holdings.walk) tick.to ∙ ap (λ (y : PortValue). y.holdings.walk) look.to ∙ landed;
        }

-- ---- the cases of the own flush
own_post : (v a b : PortValue) (c f : ℕ) → Moves v a Clock Load kinds.Look None c → Moves a b Clock (Cas c (c + 1)) kinds.Tick None f → b.post ≡ v.post
own_post v a b c f look tick = ap (λ (y : PortValue). y.post) tick.to ∙ ap (λ (y : PortValue). y.post) look.to

pub spent_own : (v w : PortValue) (c : ℕ) → Moves v w Clock Load kinds.Look None c → c ≡ last_clock → FlushesOwn v w (Err (refusals.Clock c))
spent_own v w c m is = subst (λ x. FlushesOwn v w (Err (refusals.Clock x))) (sym is) (spent (subst (λ x. Moves v w Clock Load kinds.Look None x) is m))

pub ticked_own : (v a b w : PortValue) (c before : ℕ) → c ≢ last_clock → Moves v a Clock Load kinds.Look None c → Moves a b Clock (Cas c (c + 1)) kinds.Tick None c →
    Moves b w (flushed_of b.post.vcpu) (Store (c + 1)) kinds.Ack None before → FlushesOwn v w (Ok tt)
ticked_own v a b w c before some look tick ack =
    ticked a b c before some look tick (subst (λ (q : Post). Moves b w (flushed_of q.vcpu) (Store (c + 1)) kinds.Ack None before) (own_post v a b c c look tick) ack)

pub overtaken_own : (v a b w : PortValue) (c f before : ℕ) → c ≢ last_clock → f ≢ c → Moves v a Clock Load kinds.Look None c → Moves a b Clock (Cas c (c + 1)) kinds.Tick None f →
    Moves b w (flushed_of b.post.vcpu) (Store f) kinds.Ack None before → FlushesOwn v w (Ok tt)
overtaken_own v a b w c f before some off look tick ack =
    overtaken a b c f before some off look tick (subst (λ (q : Post). Moves b w (flushed_of q.vcpu) (Store f) kinds.Ack None before) (own_post v a b c f look tick) ack)
