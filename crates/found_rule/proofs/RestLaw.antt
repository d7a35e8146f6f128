-- Acts on words of vCPUs and on cells: references, the cache and the walk may move, and no other part of the hand.
use Rattle.std.proofs.Common.{◌≡◌, ◌≢◌, ℕ, ◌<◌, IsTrue, sym, subst, inl, arith}
use Rattle.xp_words.specs.Machine.{Machine}
use Rattle.xp_words.specs.declared.place.Place.{Place}
use Rattle.xp_words.specs.declared.place.Place.TheVariants.{Refs, Kind, Cell}
use Rattle.xp_words.specs.Places.{sizes_of, flushed_of, run_of}
use Rattle.xp_board.specs.declared.holdings.Holdings.{Holdings}
use Rattle.xp_board.specs.Lists.{EachOf}
use Rattle.xp_board.specs.Readings.{domain_of}
use Rattle.xp_board.specs.After.{is_fixed}
use Rattle.xp_board.specs.Found.{WorkFound, LockFound, EndingFound, ClaimFound}
use Rattle.xp_board.specs.WellFormed.{IsCacheFormed, WellFormed}
use Rattle.xp_board.specs.Sound.{Sound}
use Rattle.found_rule.proofs.Learning.{Act}
use Rattle.found_rule.proofs.Words.{Words}
use Rattle.found_rule.proofs.KnownFacts.{RefRight, TypedRight, LockRight}
use Rattle.found_rule.proofs.HandFacts.{ReachKept}
use Rattle.found_rule.proofs.MyHand.{HandRight, mine_by, lock_right_old, works_old, locks_old, endings_old, claims_old}
use Rattle.found_rule.proofs.Outcome.{offs_kept}
use Rattle.found_rule.proofs.FormedLaw.{formed_by, ending_formed_old, claimed_formed_old}
use Rattle.found_rule.proofs.Quiet.{Done, works_form, locks_form}
use Rattle.xp_board.proofs.HandLists.{EachOf-map}
use Rattle.found_rule.proofs.Demands.{RefsMoved}

pub record Rest (a u : Holdings) : Type 0 where
  pub works : u.works ≡ a.works
  pub locks : u.locks ≡ a.locks
  pub ending : u.ending ≡ a.ending
  pub claimed : u.claimed ≡ a.claimed
  pub raised : u.raised ≡ a.raised
  pub looking : u.looking ≡ a.looking
  pub cold : u.cold ≡ a.cold
  pub turn : u.turn ≡ a.turn
  pub acked : u.acked ≡ a.acked
  pub ran : u.ran ≡ a.ran

-- a hand in which references alone moved
pub rest_of : (a u : Holdings) → RefsMoved a u → Rest a u
rest_of a u k =
    record {
      works = k.works;
      locks = k.locks;
      ending = k.ending;
      claimed = k.claimed;
      raised = k.raised;
      looking = k.looking;
      cold = k.cold;
      turn = k.turn;
      acked = k.acked;
      ran = k.ran;
    }

module _ (n : Machine) (s : ℕ) (p : Place) (m m2 : Place → ℕ) (b c : ℕ → Holdings) (u : Holdings) (acted : Act n s p m m2 (b s) u (c s)) (l : s < (sizes_of n).vcpus) (sound : Sound n m b)
    (others : (t : ℕ) → t ≢ s → c t ≡ b t) (rest : Rest (b s) u) (kinds : (f : ℕ) → m2 (Kind f) ≡ m (Kind f)) (refs : (f : ℕ) → m2 (Refs f) ≡ m (Refs f)) where
  formed_rest : IsCacheFormed u → WellFormed n s (c s)
  formed_rest cache =
      let g = sound.formed s l in
      formed_by n s p m m2 (b s) u (c s) acted
      (record {
        works = works_form n s p m m2 b c u acted l sound rest.works;
        locks = locks_form n s p m m2 b c u acted l sound rest.locks;
        ending = rw (rest.ending) (ending_formed_old n s p m m2 (b s) u (c s) acted g);
        claimed = rw (rest.claimed) (claimed_formed_old n s p m m2 (b s) u (c s) acted g);
        raised = record { held = λ f. rw (rest.raised, rest.ending, rest.claimed) (g.raised.held f) };
        looking = rw (rest.looking) g.looking;
        cache = cache;
        turn = let q = g.turn in let e = rest.turn in omega arith;
        acked = let q = g.acked in let e = rest.acked in omega arith;
        ran = let q = g.ran in let e = rest.ran in omega arith;
      }) g

  module _ (words : Words n s m m2 b) (reach : ReachKept n m m2 b c) (fix : EachOf (λ e. (i : ℕ) → p ≡ Cell e.frame i → i < e.fixed → IsTrue (is_fixed (m2 p))) (b s).works)
      (zero : EachOf (λ e. (i : ℕ) → p ≡ Cell e.frame i → i < e.scrubbed → m2 p ≡ 0) (b s).claimed) (flushed : (v : ℕ) → m2 (flushed_of v) ≡ m (flushed_of v)) (run : (v : ℕ) → m2 (run_of v) ≡ m (run_of v)) where
    hand_rest : EachOf (RefRight (sizes_of n) m2 (c s).steps) u.refs → EachOf (TypedRight (sizes_of n) m2 (c s).steps) u.typed → HandRight n s m m2 b c u
    hand_rest plain typed =
        let z = sizes_of n in
        record {
          refs = plain;
          typed = typed;
          lock_right = subst (λ xs. EachOf (LockRight z m2 (c s).steps) xs) (sym rest.locks) (lock_right_old n s p m m2 b c u acted l sound words reach);
          works = subst (λ xs. EachOf (WorkFound n m2 c (c s)) xs) (sym rest.works)
              (EachOf-map (λ e. m2 (Kind e.frame) ≡ m (Kind e.frame) → WorkFound n m2 c (c s) e) (WorkFound n m2 c (c s)) (b s).works (λ e h. h (kinds e.frame))
              (works_old n s p m m2 b c u acted l sound words reach fix));
          locks = subst (λ xs. EachOf (LockFound z m2 (c s)) xs) (sym rest.locks) (locks_old n s p m m2 b c u acted l sound words reach);
          endings = subst (λ xs. EachOf (EndingFound m2) xs) (sym rest.ending)
              (EachOf-map (λ e. m2 (Refs e.frame) ≡ m (Refs e.frame) → EndingFound m2 e) (EndingFound m2) (b s).ending (λ e h. h (refs e.frame))
              (endings_old n s p m m2 b c u acted l sound words reach));
          claims = subst (λ xs. EachOf (ClaimFound z m2 (domain_of n s) (c s)) xs) (sym rest.claimed)
              (EachOf-map (λ e. m2 (Refs e.frame) ≡ m (Refs e.frame) → ClaimFound z m2 (domain_of n s) (c s) e) (ClaimFound z m2 (domain_of n s) (c s)) (b s).claimed (λ e h. h (refs e.frame))
              (claims_old n s p m m2 b c u acted l sound words reach zero));
          acked = inl (flushed s, rest.acked);
        }

    pub rest_done : EachOf (RefRight (sizes_of n) m2 (c s).steps) u.refs → EachOf (TypedRight (sizes_of n) m2 (c s).steps) u.typed → IsCacheFormed u → Done n s m m2 b c
    rest_done plain typed cache =
        record {
          found = record {
            place = p;
            moved = u;
            words = words;
            reach = reach;
            offs = offs_kept n s p m m2 b c u acted others rest.cold rest.ran flushed run words;
            mine = mine_by n s p m m2 b c u acted (hand_rest plain typed);
          };
          formed = formed_rest cache;
        }
