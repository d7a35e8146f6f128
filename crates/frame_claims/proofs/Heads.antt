-- The newest of the claimed frames: it is scrubbed, and given.
use Rattle.std.proofs.Common.{◌≡◌, ℕ, List, [], ◌∷◌, refl, sym, ap, ◌∙◌}
use Rattle.xp_board.specs.declared.holdings.Claimed.{Claimed}
use Rattle.xp_board.specs.declared.holdings.Holdings.{Holdings}
use Rattle.xp_board.specs.Lists.{times}
use Rattle.xp_board.specs.Told.{PortValue}
use Rattle.step_maker.specs.Holds.{Holds, Same, still}
use Rattle.claim_words.specs.Claims.{IsNewest, IsRaised, MayScrub, given_newest, lowered_newest, behind_newest, scrubbed_newest, scrubbed_to}
use Rattle.frame_claims.specs.Blocks.{IsHead, IsPlain, without_head}

pub post_held : (v w : PortValue) (h : Holdings) → Holds v w h → w.post ≡ v.post
post_held v w h holds = ap (λ (y : PortValue). y.post) holds

-- ---- scrubbed
to_twice : (i j : ℕ) (cs : List Claimed) → scrubbed_to j (scrubbed_to i cs) ≡ scrubbed_to j cs
to_twice i j [] = refl
to_twice i j (c ∷ cs) = refl

rest_scrubbed : (i : ℕ) (cs : List Claimed) → behind_newest (scrubbed_to i cs) ≡ behind_newest cs
rest_scrubbed i [] = refl
rest_scrubbed i (c ∷ cs) = refl

zero_is : (f : ℕ) (h : Holdings) → MayScrub f 0 h → scrubbed_to 0 h.claimed ≡ h.claimed
zero_is f h s = rw s.newest (ap (λ (k : ℕ). record s.claim { scrubbed = k } ∷ s.others) (sym s.scrubbed))

pub scrub_start : (v : PortValue) (f : ℕ) → MayScrub f 0 v.holdings → Holds v v (scrubbed_newest 0 v.holdings)
scrub_start v f s = ap (λ cs. still (record v { holdings = record v.holdings { claimed = cs } })) (sym (zero_is f v.holdings s))

pub scrub_on : (v w : PortValue) (f i : ℕ) → MayScrub f 0 v.holdings → Holds v w (scrubbed_newest i v.holdings) → MayScrub f i w.holdings
scrub_on v w f i s holds =
    record {
      claim = record s.claim { scrubbed = i };
      others = s.others;
      newest = ap (λ (y : PortValue). y.holdings.claimed) holds ∙ ap (scrubbed_to i) s.newest;
      frame = s.frame;
      scrubbed = refl;
      no_works = ap (λ (y : PortValue). y.holdings.works) holds ∙ s.no_works;
      no_locks = ap (λ (y : PortValue). y.holdings.locks) holds ∙ s.no_locks;
    }

pub scrub_more : (v w x : PortValue) (i j : ℕ) → Holds v w (scrubbed_newest i v.holdings) → Holds w x (scrubbed_newest j w.holdings) → Holds v x (scrubbed_newest j v.holdings)
scrub_more v w x i j a b =
    b ∙ ap (λ (q : PortValue). still (record q { holdings = scrubbed_newest j q.holdings })) a
    ∙ ap (λ cs. still (record v { holdings = record v.holdings { claimed = cs } })) (to_twice i j v.holdings.claimed)

pub head_scrubs : (f stamp : ℕ) (h : Holdings) → IsHead f stamp h → MayScrub f 0 h
head_scrubs f stamp h e =
    record { claim = e.claim; others = e.others; newest = e.newest; frame = e.frame; scrubbed = e.scrubbed; no_works = e.plain.works; no_locks = e.plain.locks }

-- ---- and given
module _ (v a : PortValue) (f stamp : ℕ) (e : IsHead f stamp v.holdings) (scrubbed : Holds v a (scrubbed_newest 512 v.holdings)) where
  claimed_a : a.holdings.claimed ≡ record e.claim { scrubbed = 512 } ∷ e.others
  claimed_a = ap (λ (y : PortValue). y.holdings.claimed) scrubbed ∙ ap (scrubbed_to 512) e.newest

  raised_a : a.holdings.raised ≡ f ∷ e.bits
  raised_a = ap (λ (y : PortValue). y.holdings.raised) scrubbed ∙ e.raised

  ending_a : a.holdings.ending ≡ []
  ending_a = ap (λ (y : PortValue). y.holdings.ending) scrubbed ∙ e.plain.ending

  pub plain_a : IsPlain a.holdings
  plain_a =
      record {
        refs = ap (λ (y : PortValue). y.holdings.refs) scrubbed ∙ e.plain.refs;
        typed = ap (λ (y : PortValue). y.holdings.typed) scrubbed ∙ e.plain.typed;
        works = ap (λ (y : PortValue). y.holdings.works) scrubbed ∙ e.plain.works;
        locks = ap (λ (y : PortValue). y.holdings.locks) scrubbed ∙ e.plain.locks;
        ending = ending_a;
      }

  pub newest_a : IsNewest f stamp a.holdings
  newest_a = record { claim = record e.claim { scrubbed = 512 }; others = e.others; newest = claimed_a; frame = e.frame; stamped = e.stamped; no_ending = ending_a }

  module _ (b : PortValue) (mapped : Same a b) where
    claimed_b : b.holdings.claimed ≡ record e.claim { scrubbed = 512 } ∷ e.others
    claimed_b = ap (λ (y : PortValue). y.holdings.claimed) mapped ∙ claimed_a

    pub newest_b : IsNewest f stamp b.holdings
    newest_b =
        record {
          claim = record e.claim { scrubbed = 512 };
          others = e.others;
          newest = claimed_b;
          frame = e.frame;
          stamped = e.stamped;
          no_ending = ap (λ (y : PortValue). y.holdings.ending) mapped ∙ ending_a;
        }

    raised_b : b.holdings.raised ≡ f ∷ e.bits
    raised_b = ap (λ (y : PortValue). y.holdings.raised) mapped ∙ raised_a

    pub raised_there : IsRaised f b.holdings
    raised_there = record { others = e.bits; newest = raised_b }

    module _ (c : PortValue) (lowered : Holds b c (lowered_newest b.holdings)) where
      claimed_c : c.holdings.claimed ≡ record e.claim { scrubbed = 512 } ∷ e.others
      claimed_c = ap (λ (y : PortValue). y.holdings.claimed) lowered ∙ claimed_b

      pub newest_c : IsNewest f stamp c.holdings
      newest_c =
          record {
            claim = record e.claim { scrubbed = 512 };
            others = e.others;
            newest = claimed_c;
            frame = e.frame;
            stamped = e.stamped;
            no_ending = ap (λ (y : PortValue). y.holdings.ending) lowered ∙ ap (λ (y : PortValue). y.holdings.ending) mapped ∙ ending_a;
          }

      pub clean_c : MayScrub f 512 c.holdings
      clean_c =
          record {
            claim = record e.claim { scrubbed = 512 };
            others = e.others;
            newest = claimed_c;
            frame = e.frame;
            scrubbed = refl;
            no_works = ap (λ (y : PortValue). y.holdings.works) lowered ∙ ap (λ (y : PortValue). y.holdings.works) mapped ∙ plain_a.works;
            no_locks = ap (λ (y : PortValue). y.holdings.locks) lowered ∙ ap (λ (y : PortValue). y.holdings.locks) mapped ∙ plain_a.locks;
          }

      pub lowered_c : times f c.holdings.raised ≡ 0
      lowered_c = ap (λ xs. times f xs) (ap (λ (y : PortValue). y.holdings.raised) lowered ∙ ap (λ (xs : List ℕ). behind_newest xs) raised_b) ∙ e.once

      pub given_c : (w : PortValue) → Holds c w (given_newest c.holdings) → Holds v w (without_head v.holdings)
      given_c w given =
          given
          ∙ ap (λ (q : PortValue). still (record q { holdings = given_newest q.holdings })) (lowered ∙ ap (λ (q : PortValue). still (record q { holdings = lowered_newest q.holdings })) (mapped ∙ scrubbed))
          ∙ ap (λ cs. still (record v { holdings = record v.holdings { claimed = cs; raised = behind_newest v.holdings.raised } })) (rest_scrubbed 512 v.holdings.claimed)
