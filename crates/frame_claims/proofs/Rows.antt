-- Rows of claimed frames: one more taken, or the newest one given or free again.
use Rattle.std.proofs.Common.{◌≡◌, ℕ, suc, zero, ◌+◌, ◌<◌, List, [], ◌∷◌, refl, sym, ap, ◌∙◌, arith}
use Rattle.xp_board.specs.declared.holdings.Claimed.{Claimed}
use Rattle.xp_board.specs.Lists.{one_at, times, times_by, with_more, without_by}
use Rattle.xp_board.specs.Told.{PortValue}
use Rattle.xp_board.proofs.Sums.{when_eq}
use Rattle.step_maker.specs.Holds.{Holds, still}
use Rattle.claim_words.specs.Claims.{IsNewest, IsRaised, freed_again, behind_newest, taken_at}
use Rattle.frame_claims.specs.Blocks.{HasRow, IsHead, IsPlain, IsRow, holding, rising, without_head}
use Rattle.xp_words.proofs.Shared.{eq_false as when_ne}

-- ---- the parts of a row
record Parts (at s : ℕ) (ss : List ℕ) (cs : List Claimed) : Type 0 where
  claim : Claimed
  others : List Claimed
  is : cs ≡ claim ∷ others
  frame : claim.frame ≡ at
  stamped : claim.stamp ≡ s
  scrubbed : claim.scrubbed ≡ 0
  rest : IsRow (at + 1) ss others

parts : (at s : ℕ) (ss : List ℕ) (cs : List Claimed) → IsRow at (s ∷ ss) cs → Parts at s ss cs
unfolding IsRow
parts at s ss [] row = absurd row
parts at s ss (c ∷ cs) row = record { claim = c; others = cs; is = refl; frame = row.0; stamped = row.1; scrubbed = row.2; rest = row.3 }

pub empty_row : (at : ℕ) (cs : List Claimed) → IsRow at [] cs → cs ≡ []
unfolding IsRow
empty_row at [] row = refl
empty_row at (c ∷ cs) row = absurd row

rising_more : (at s : ℕ) (ss : List ℕ) → rising at (s ∷ ss) ≡ at ∷ rising (at + 1) ss
unfolding rising
rising_more at s ss = refl

rising_above : (f at : ℕ) (ss : List ℕ) → f < at → times f (rising at ss) ≡ 0
unfolding rising times_by
rising_above f at [] low = refl
rising_above f at (s ∷ ss) low =
    let none : one_at f at ≡ 0 = rw (when_ne at f (λ e. absurd (omega (arith, e, low)))) in
    let rest = rising_above f (at + 1) ss (omega (arith, low)) in
    omega (arith, none, rest)

more_one : (k d : ℕ) (xs : List ℕ) → d ∷ with_more k d xs ≡ with_more (k + 1) d xs
unfolding with_more
more_one k d xs = let e : k + 1 ≡ suc k = omega arith in rw e refl

one_less : (k d : ℕ) (xs : List ℕ) → without_by (λ e. e) d (with_more (k + 1) d xs) ≡ with_more k d xs
unfolding without_by
one_less k d xs = sym (ap (λ ys. without_by (λ e. e) d ys) (more_one k d xs)) ∙ rw (when_eq d d refl) refl

-- ---- the newest
module _ (v u : PortValue) (at s : ℕ) (ss : List ℕ) (d k : ℕ) (row : HasRow v u at (s ∷ ss) d k) where
  p : Parts at s ss row.claims
  p = parts at s ss row.claims row.row

  newest : u.holdings.claimed ≡ p.claim ∷ p.others
  newest = ap (λ (y : PortValue). y.holdings.claimed) row.hand ∙ p.is

  bits : u.holdings.raised ≡ at ∷ rising (at + 1) ss
  bits = ap (λ (y : PortValue). y.holdings.raised) row.hand ∙ rising_more at s ss

  plain_there : IsPlain v.holdings → IsPlain u.holdings
  plain_there plain =
      record {
        refs = ap (λ (y : PortValue). y.holdings.refs) row.hand ∙ plain.refs;
        typed = ap (λ (y : PortValue). y.holdings.typed) row.hand ∙ plain.typed;
        works = ap (λ (y : PortValue). y.holdings.works) row.hand ∙ plain.works;
        locks = ap (λ (y : PortValue). y.holdings.locks) row.hand ∙ plain.locks;
        ending = ap (λ (y : PortValue). y.holdings.ending) row.hand ∙ plain.ending;
      }

  pub row_head : IsPlain v.holdings → IsHead at s u.holdings
  row_head plain =
      record {
        claim = p.claim;
        others = p.others;
        bits = rising (at + 1) ss;
        newest = newest;
        frame = p.frame;
        stamped = p.stamped;
        scrubbed = p.scrubbed;
        raised = bits;
        once = rising_above at (at + 1) ss (omega arith);
        plain = plain_there plain;
      }

  pub row_newest : IsPlain v.holdings → IsNewest at s u.holdings
  row_newest plain =
      record { claim = p.claim; others = p.others; newest = newest; frame = p.frame; stamped = p.stamped; no_ending = (plain_there plain).ending }

  pub row_raised : IsRaised at u.holdings
  row_raised = record { others = rising (at + 1) ss; newest = bits }

  -- given
  pub row_given : (w : PortValue) → Holds u w (without_head u.holdings) → HasRow v w (at + 1) ss d k
  row_given w gives =
      record {
        claims = p.others;
        row = p.rest;
        hand = gives ∙ ap (λ (q : PortValue). still (record q { holdings = without_head q.holdings })) row.hand
            ∙ ap (λ cs. still (record v { holdings = holding (behind_newest cs) (behind_newest (rising at (s ∷ ss))) (with_more k d []) v.holdings })) p.is
            ∙ ap (λ (bs : List ℕ). still (record v { holdings = holding p.others (behind_newest bs) (with_more k d []) v.holdings })) (rising_more at s ss);
      }

  -- free again
  pub row_freed : (w : PortValue) → Holds u w (freed_again d u.holdings) → HasRow v w (at + 1) ss d (k + 1)
  row_freed w frees =
      record {
        claims = p.others;
        row = p.rest;
        hand = frees ∙ ap (λ (q : PortValue). still (record q { holdings = freed_again d q.holdings })) row.hand
            ∙ ap (λ cs. still (record v { holdings = holding (behind_newest cs) (behind_newest (rising at (s ∷ ss))) (d ∷ with_more k d []) v.holdings })) p.is
            ∙ ap (λ (bs : List ℕ). still (record v { holdings = holding p.others (behind_newest bs) (d ∷ with_more k d []) v.holdings })) (rising_more at s ss)
            ∙ ap (λ cs. still (record v { holdings = holding p.others (rising (at + 1) ss) cs v.holdings })) (more_one k d []);
      }

-- ---- one more
new_row : (at s now : ℕ) (ss : List ℕ) (cs : List Claimed) → IsRow (at + 1) ss cs → IsRow at (s ∷ ss) (record { frame = at; stamp = s; scrubbed = 0; since = now } ∷ cs)
unfolding IsRow
new_row at s now ss cs row = (refl, refl, refl, row)

pub row_taken : (v u w : PortValue) (at s now : ℕ) (ss : List ℕ) (d k : ℕ) → HasRow v u (at + 1) ss d (k + 1) → Holds u w (taken_at now at s d u.holdings) → HasRow v w at (s ∷ ss) d k
row_taken v u w at s now ss d k row takes =
    record {
      claims = record { frame = at; stamp = s; scrubbed = 0; since = now } ∷ row.claims;
      row = new_row at s now ss row.claims row.row;
      hand = takes ∙ ap (λ (q : PortValue). still (record q { holdings = taken_at now at s d q.holdings })) row.hand
          ∙ ap (λ bs. still (record v { holdings = holding (record { frame = at; stamp = s; scrubbed = 0; since = now } ∷ row.claims) bs (without_by (λ e. e) d (with_more (k + 1) d [])) v.holdings })) (sym (rising_more at s ss))
          ∙ ap (λ cs. still (record v { holdings = holding (record { frame = at; stamp = s; scrubbed = 0; since = now } ∷ row.claims) (rising at (s ∷ ss)) cs v.holdings })) (one_less k d []);
    }

-- nothing changed in hand
pub row_same : (v u w : PortValue) (at : ℕ) (ss : List ℕ) (d k : ℕ) → HasRow v u at ss d k → still w ≡ still u → HasRow v w at ss d k
row_same v u w at ss d k row same = record { claims = row.claims; row = row.row; hand = same ∙ row.hand }

-- seen from where the row was held, nothing is different
pub row_here : (v u : PortValue) (at : ℕ) (ss : List ℕ) (d k : ℕ) → HasRow v u at ss d k → HasRow u u at ss d k
row_here v u at ss d k row =
    record {
      claims = row.claims;
      row = row.row;
      hand = ap (λ cs. still (record u { holdings = record u.holdings { claimed = cs } })) (ap (λ (y : PortValue). y.holdings.claimed) row.hand)
          ∙ ap (λ bs. still (record u { holdings = record u.holdings { claimed = row.claims; raised = bs } })) (ap (λ (y : PortValue). y.holdings.raised) row.hand)
          ∙ ap (λ cs. still (record u { holdings = record u.holdings { claimed = row.claims; raised = rising at ss; credits = cs } })) (ap (λ (y : PortValue). y.holdings.credits) row.hand);
    }

-- and the other way round: what was held before does not matter for what replaces it
pub row_through : (v u w : PortValue) (at bt : ℕ) (ss ts : List ℕ) (d k j : ℕ) → HasRow v u at ss d k → HasRow u w bt ts d j → HasRow v w bt ts d j
row_through v u w at bt ss ts d k j row next =
    record {
      claims = next.claims;
      row = next.row;
      hand = next.hand ∙ ap (λ (q : PortValue). still (record q { holdings = holding next.claims (rising bt ts) (with_more j d []) q.holdings })) row.hand;
    }

pub row_plain : (v u : PortValue) (at : ℕ) (ss : List ℕ) (d k : ℕ) → HasRow v u at ss d k → IsPlain v.holdings → IsPlain u.holdings
row_plain v u at ss d k row plain =
    record {
      refs = ap (λ (y : PortValue). y.holdings.refs) row.hand ∙ plain.refs;
      typed = ap (λ (y : PortValue). y.holdings.typed) row.hand ∙ plain.typed;
      works = ap (λ (y : PortValue). y.holdings.works) row.hand ∙ plain.works;
      locks = ap (λ (y : PortValue). y.holdings.locks) row.hand ∙ plain.locks;
      ending = ap (λ (y : PortValue). y.holdings.ending) row.hand ∙ plain.ending;
    }

-- pages are still counted
pub some_credit : (k d : ℕ) (xs : List ℕ) → 0 < k → 0 < times d (with_more k d xs)
unfolding with_more times_by
some_credit zero d xs some = absurd (omega (arith, some))
some_credit (suc k) d xs some = let one : one_at d d ≡ 1 = rw (when_eq d d refl) in omega (arith, one)
