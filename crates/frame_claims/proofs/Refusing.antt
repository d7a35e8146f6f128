-- Blocks that are not free: a frame of each was found taken, the lower block the earlier.
use Rattle.std.proofs.Common.{◌≡◌, ℕ, ◌+◌, ◌-◌, ◌*◌, ◌/◌, ◌<◌, ◌≤◌, false, [], length, Option, None, Some, IfNone, is_some, refl, ap, ◌∙◌, subst, arith}
use Rattle.std.proofs.lemmas.Nat.{div-mul-add}
use Rattle.xp_words.specs.declared.place.Place.TheVariants.{Refs}
use Rattle.xp_board.specs.Hands.{claim_of}
use Rattle.xp_board.specs.Lists.{first_by}
use Rattle.xp_board.specs.Readings.{is_free}
use Rattle.xp_board.specs.declared.holdings.Holdings.{Holdings}
use Rattle.xp_board.specs.declared.step.Act.TheVariants.{Load}
use Rattle.xp_board.specs.declared.step.StepKind.TheVariants as kinds
use Rattle.xp_board.specs.Told.{Post, PortValue}
use Rattle.step_maker.specs.Moves.{Came, Met, Moves}
use Rattle.step_maker.proofs.Coming.{came_post, met_after, met_before, moment_of, moves_met}
use Rattle.step_maker.specs.Licences.{HasTaken, HasTakenAll}
use Rattle.frame_claims.specs.Choosing.{Looks, NoneFree, SeenTaken}
use Rattle.frame_claims.proofs.Finding.{looks_came}
use Rattle.frame_claims.proofs.Lasting.{met_within}
use Rattle.frame_claims.proofs.Passing.{TakenBelow, all_taken, below_more, below_next, taken_more}

pub when_none : {A : Type 0} (o : Option A) (P : Type 0) → is_some o ≡ false → IfNone o P → P
when_none None P is p = p
when_none (Some x) P is p = absurd (cc)

-- ---- a look at a frame that is not free
pub seen_taken : (v u w : PortValue) (first size f x : ℕ) → Looks v u → Moves u w (Refs f) Load kinds.Look None x → is_free x ≡ false → first ≤ f → f < first + size → SeenTaken v w first size
unfolding moment_of
seen_taken v u w first size f x looks m taken from to =
    record {
      frame = f;
      from = from;
      to = to;
      word = x;
      hand = u.holdings;
      found = record {
        moment = moment_of u (Refs f) Load kinds.Look None x;
        was = met_after v u w _ (looks_came v u looks) (moves_met u w (Refs f) Load kinds.Look None x m);
        place = refl;
        word = refl;
        hand = refl;
      };
      taken = taken;
      same = ap (λ (y : PortValue). y.holdings.claimed) looks.hand;
    }

-- ---- a block
unclaimed_by : (f : ℕ) (h : Holdings) → h.claimed ≡ [] → claim_of f h.claimed ≡ None
unfolding first_by
unclaimed_by f h none = rw none refl

block_of : (block size f : ℕ) → 0 < size → block * size ≤ f → f < block * size + size → f / size ≡ block
block_of block size f some from to =
    ap (λ k. k / size) (let at : f ≡ block * size + (f - block * size) = omega (arith, from) in at) ∙ div-mul-add block size (f - block * size) (omega (arith, to, from))

module _ (v u w : PortValue) (size block : ℕ) (some : 0 < size) (looks : Looks v u) (came : Came u w) (none : v.holdings.claimed ≡ []) (seen : SeenTaken u w (block * size) size) where
  here : HasTaken size (Met u w) block
  here =
      record {
        frame = seen.frame;
        inside = block_of block size seen.frame some seen.from seen.to;
        word = seen.word;
        hand = seen.hand;
        found = seen.found;
        taken = seen.taken;
        unclaimed = unclaimed_by seen.frame seen.hand (seen.same ∙ ap (λ (y : PortValue). y.holdings.claimed) looks.hand ∙ none);
      }

  when : (length u.holdings.steps ≤ length seen.hand.steps) × (length seen.hand.steps < length w.holdings.steps)
  when =
      subst (λ (h : Holdings). (length u.holdings.steps ≤ length h.steps) × (length h.steps < length w.holdings.steps)) seen.found.hand
      (met_within u w seen.found.moment seen.found.was)

  pub one_more : TakenBelow size (Met v u) block (length u.holdings.steps) → TakenBelow size (Met v w) (block + 1) (length w.holdings.steps)
  unfolding here
  one_more below =
      below_next size (Met v w) block (length u.holdings.steps) (length w.holdings.steps) (below_more size (Met v u) (Met v w) (λ m x. met_before v u w m x came) block (length u.holdings.steps) below)
      (taken_more size (Met u w) (Met v w) (λ m x. met_after v u w m (looks_came v u looks) x) block here) when.0 when.1

-- ---- all blocks
pub all_seen : (v w : PortValue) (size m frames : ℕ) → 0 < size → frames ≡ v.post.machine.frames → m ≡ frames / size → (v.holdings.claimed ≡ [] → TakenBelow size (Met v w) m (length w.holdings.steps)) → NoneFree v w size
all_seen v w size m frames some is all below none = all_taken size (Met v w) v.post.machine m (length w.holdings.steps) some (all ∙ ap (λ k. k / size) is) (below none)

-- behind other looks
pub none_from : (v u w : PortValue) (size : ℕ) → Looks v u → NoneFree u w size → NoneFree v w size
none_from v u w size looks free none =
    let all = free (ap (λ (y : PortValue). y.holdings.claimed) looks.hand ∙ none) in
    let came = looks_came v u looks in
    let post = came_post v u came in
    subst (λ (q : Post). HasTakenAll q.machine size (Met v w)) post
    (record {
      taken = λ block fits. taken_more size (Met u w) (Met v w) (λ m x. met_after v u w m came x) block (all.taken block fits);
      upwards = λ low high a b less. all.upwards low high a b less;
    })

pub none_some : {A : Type 0} (v u w : PortValue) (size : ℕ) (o : Option A) → Looks v u → IfNone o (NoneFree u w size) → IfNone o (NoneFree v w size)
none_some v u w size None looks free = none_from v u w size looks free
none_some v u w size (Some x) looks free = tt
