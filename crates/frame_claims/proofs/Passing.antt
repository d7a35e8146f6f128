-- One pass upwards over the blocks, each of which has a frame that is taken.
use Rattle.std.proofs.Common.{◌≡◌, ℕ, zero, suc, ◌+◌, ◌*◌, ◌/◌, ◌<◌, ◌≤◌, ◌⊎◌, length, sym, ◌∙◌, subst, inl, inr, arith}
use Rattle.std.proofs.Math.Nat.{le-div_iff_mul-le}
use Rattle.xp_words.specs.Machine.{Machine}
use Rattle.step_maker.specs.Moves.{Moment}
use Rattle.step_maker.specs.Finding.{Finding}
use Rattle.step_maker.specs.Licences.{HasTaken, HasTakenAll}

-- each block below that number, by steps below number `at`
abbrev pub TakenBelow : ℕ → Finding → ℕ → ℕ → Type 0
TakenBelow size F zero at = Unit {0}
TakenBelow size F (suc m) at = (t : HasTaken size F m) × (length t.hand.steps < at) × TakenBelow size F m (length t.hand.steps)

abbrev pub taken_more : (size : ℕ) (F G : Finding) → ((m : Moment) → F m → G m) → (block : ℕ) → HasTaken size F block → HasTaken size G block
taken_more size F G more block t =
    record {
      frame = t.frame;
      inside = t.inside;
      word = t.word;
      hand = t.hand;
      found = record { moment = t.found.moment; was = more t.found.moment t.found.was; place = t.found.place; word = t.found.word; hand = t.found.hand };
      taken = t.taken;
      unclaimed = t.unclaimed;
    }

pub below_more : (size : ℕ) (F G : Finding) → ((m : Moment) → F m → G m) → (m at : ℕ) → TakenBelow size F m at → TakenBelow size G m at
below_more size F G more zero at b = tt
below_more size F G more (suc m) at b = (taken_more size F G more m b.0, b.1, below_more size F G more m (length b.0.hand.steps) b.2)

module _ (size : ℕ) (F : Finding) where
  pub below_later : (m at bt : ℕ) → at ≤ bt → TakenBelow size F m at → TakenBelow size F m bt
  below_later zero at bt late b = tt
  below_later (suc m) at bt late b = (b.0, (let low = b.1 in omega (arith, low, late)), b.2)

  pub below_next : (m at bt : ℕ) → TakenBelow size F m at → (t : HasTaken size F m) → at ≤ length t.hand.steps → length t.hand.steps < bt → TakenBelow size F (m + 1) bt
  below_next m at bt b t late low = let e : m + 1 ≡ suc m = omega arith in rw e (t, low, below_later m at (length t.hand.steps) late b)

  below_or : (j k : ℕ) → j < suc k → (j < k) ⊎ (j ≡ k)
  below_or j k l = grind arith

  pick_by : (m block : ℕ) → HasTaken size F m → (block < m → HasTaken size F block) → (block < m) ⊎ (block ≡ m) → HasTaken size F block
  pick_by m block t before (inl l) = before l
  pick_by m block t before (inr e) =
      record { frame = t.frame; inside = t.inside ∙ sym e; word = t.word; hand = t.hand; found = t.found; taken = t.taken; unclaimed = t.unclaimed }

  pick : (m block at : ℕ) → TakenBelow size F m at → block < m → HasTaken size F block
  pick zero block at b low = absurd (omega (arith, low))
  pick (suc m) block at b low = pick_by m block b.0 (λ l. pick m block (length b.0.hand.steps) b.2 l) (below_or block m low)

  before_by : (m block at : ℕ) (t : HasTaken size F m) (f : block < m → HasTaken size F block) → length t.hand.steps < at → ((l : block < m) → length (f l).hand.steps < length t.hand.steps) →
      (o : (block < m) ⊎ (block ≡ m)) → length (pick_by m block t f o).hand.steps < at
  unfolding pick_by
  before_by m block at t f low rest (inl l) = let less = rest l in omega (arith, less, low)
  before_by m block at t f low rest (inr e) = low

  before_all : (m block at : ℕ) (b : TakenBelow size F m at) (low : block < m) → length (pick m block at b low).hand.steps < at
  unfolding pick
  before_all zero block at b low = absurd (omega (arith, low))
  before_all (suc m) block at b low =
      before_by m block at b.0 (λ l. pick m block (length b.0.hand.steps) b.2 l) b.1 (λ l. before_all m block (length b.0.hand.steps) b.2 l) (below_or block m low)

  upwards_by : (m low high : ℕ) (t : HasTaken size F m) (f : low < m → HasTaken size F low) (g : high < m → HasTaken size F high) → low < high →
      ((l : low < m) → length (f l).hand.steps < length t.hand.steps) → ((l : low < m) (h : high < m) → length (f l).hand.steps < length (g h).hand.steps) →
      (o : (low < m) ⊎ (low ≡ m)) (p : (high < m) ⊎ (high ≡ m)) → length (pick_by m low t f o).hand.steps < length (pick_by m high t g p).hand.steps
  unfolding pick_by
  upwards_by m low high t f g less last rest (inl l) (inl h) = rest l h
  upwards_by m low high t f g less last rest (inl l) (inr e) = last l
  upwards_by m low high t f g less last rest (inr e) (inl h) = absurd (omega (arith, e, h, less))
  upwards_by m low high t f g less last rest (inr e) (inr d) = absurd (omega (arith, e, d, less))

  upwards : (m low high at : ℕ) (b : TakenBelow size F m at) (l : low < m) (h : high < m) → low < high → length (pick m low at b l).hand.steps < length (pick m high at b h).hand.steps
  unfolding pick
  upwards zero low high at b l h less = absurd (omega (arith, l))
  upwards (suc m) low high at b l h less =
      upwards_by m low high b.0 (λ k. pick m low (length b.0.hand.steps) b.2 k) (λ k. pick m high (length b.0.hand.steps) b.2 k) less
      (λ k. before_all m low (length b.0.hand.steps) b.2 k) (λ j k. upwards m low high (length b.0.hand.steps) b.2 j k less) (below_or low m l) (below_or high m h)

  within : (n block : ℕ) → 0 < size → block * size + size ≤ n → block < n / size
  within n block some fits =
      let e : (block + 1) * size ≡ block * size + size = grind arith in
      let low = (le-div_iff_mul-le {k = size} {x = block + 1} {y = n} some).1 (omega (arith, e, fits)) in
      omega (arith, low)

  -- where these are all blocks
  pub all_taken : (n : Machine) (m at : ℕ) → 0 < size → m ≡ n.frames / size → TakenBelow size F m at → HasTakenAll n size F
  all_taken n m at some is b =
      let low : (block : ℕ) → block * size + size ≤ n.frames → block < m = λ block fits. subst (λ k. block < k) (sym is) (within n.frames block some fits) in
      record { taken = λ block fits. pick m block at b (low block fits); upwards = λ i j a c less. upwards m i j at b (low i a) (low j c) less }
