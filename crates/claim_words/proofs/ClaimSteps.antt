-- Frames that are taken from the free ones: when each step is legal, and what it leaves in hand.
use Rattle.std.proofs.Common.{◌≡◌, ◌≢◌, ℕ, ◌+◌, ◌-◌, ◌/◌, ◌^◌, ◌<◌, ◌≤◌, ◌==◌, ◌&&◌, nat_le, if◌then◌else◌, true, List, [], ◌∷◌, length, slice_index, Some, None, Result, Ok, Err, IfErr, MatchResult, IsTrue, refl, sym, ap, ◌∙◌, subst, arith, inr}
use Rattle.std.proofs.lemmas.Bool.Decides.{nat_tests}
use Rattle.xp_words.specs.RefWords.{ref_read, ref_write, IsRef}
use Rattle.xp_words.specs.declared.refs.RefWord.TheVariants.{Free, Owned, Dying}
use Rattle.xp_words.specs.declared.place.Place.TheVariants.{Refs, M2p, Cell, Map, Pages}
use Rattle.xp_words.specs.Places.{Sizes, is_place, map_words, sizes_of}
use Rattle.xp_words.proofs.RefLaws.{ref_read-write}
use Rattle.xp_words.proofs.Shared.{lt_true as inside, eq_false as when_ne}
use Rattle.xp_board.specs.Acts.{left_by}
use Rattle.xp_board.specs.After.{learned_cell, learned_work, learned_lock, learned_claim}
use Rattle.xp_board.specs.CellSteps.{exchanged}
use Rattle.xp_board.specs.declared.step.Act.TheVariants.{Cas, Store, Add}
use Rattle.xp_board.specs.declared.step.StepKind.TheVariants as kinds
use Rattle.xp_board.specs.declared.holdings.Claimed.{Claimed}
use Rattle.xp_board.specs.declared.holdings.Ending.{Ending}
use Rattle.xp_board.specs.declared.holdings.Holdings.{Holdings}
use Rattle.xp_board.specs.Hands.{claims_of, claim_of, ending_of, without_claim, lock_on}
use Rattle.xp_board.specs.HintSteps.{map_bit, is_lower, lowered_frame, raised_frame, raised_by}
use Rattle.xp_board.specs.Lists.{times, first_by, changed_by, without_by, first_of, with_more}
use Rattle.xp_board.specs.Readings.{domain_of}
use Rattle.xp_board.specs.RefSteps.{IsUnreachable, IsFreeStamp, AllowsRef, after_ref_row, after_ref_store, ref_row, credited}
use Rattle.xp_board.specs.Spelling.{IsSpelling}
use Rattle.xp_board.specs.Told.{PortValue}
use Rattle.xp_board.proofs.ListCounts.{first_by-cons_here, times_by-cons_here}
use Rattle.xp_board.proofs.Numbers.{refs_there, cell_there}
use Rattle.xp_board.proofs.Sums.{when_eq, if_itself}
use Rattle.step_maker.specs.Holds.{Holds, Same, MayWork, still}
use Rattle.step_maker.specs.Moves.{May, Moves, found_by}
use Rattle.frame_words.proofs.FreeSteps.{map_there, pages_there, free_read}
use Rattle.frame_words.proofs.Putting.{without_newest}
use Rattle.claim_words.specs.Claims.{IsNewest, IsRaised, MayScrub, charged, uncharged, freed_again, given_newest, lowered_newest, scrubbed_newest, scrubbed_to, behind_newest, taken_at}

-- ---- places and words
m2p_there : (z : Sizes) (f : ℕ) → f < z.frames → IsTrue (is_place z (M2p f))
unfolding is_place
m2p_there z f h = grind (arith, nat_tests)

pub map_word_there : (z : Sizes) (k : ℕ) → k < map_words z → IsTrue (is_place z (Map k))
unfolding is_place
map_word_there z k h = grind (arith, nat_tests)

pub dying_read : (d : ℕ) → d < 2 ^ 16 → ref_read (ref_write (Dying d)) ≡ Some (Dying d)
unfolding IsRef
dying_read d low = ref_read-write (Dying d) low

pub owned_read : (d : ℕ) → d < 2 ^ 16 → ref_read (ref_write (Owned d true 1)) ≡ Some (Owned d true 1)
unfolding IsRef
owned_read d low = ref_read-write (Owned d true 1) (low, omega arith, omega arith)

pub low_domain : (v : PortValue) (d : ℕ) → MayWork v → d < length v.post.machine.page_limit → d < 2 ^ 16
low_domain v d may real = let few = may.machine.few_domains in omega arith

-- ---- lists
changed_head : {A : Type 0} (key : A → ℕ) (f : ℕ) (change : A → A) (x : A) (xs : List A) → key x ≡ f → changed_by key f change (x ∷ xs) ≡ change x ∷ xs
unfolding changed_by
changed_head key f change x xs at = rw (when_eq (key x) f at) refl

without_nil : {A : Type 0} (key : A → ℕ) (f : ℕ) (xs : List A) → xs ≡ [] → without_by key f xs ≡ xs
unfolding without_by
without_nil key f xs none = rw none refl

-- ---- pages
pub may_charge : (v : PortValue) (d found k : ℕ) → d < length v.post.machine.page_limit → MayWork v → 1 ≤ k → found + k ≤ slice_index v.post.machine.page_limit d → found + k < 2 ^ 64 → May v (Pages d) (Cas found (found + k)) kinds.Pages None
unfolding IsSpelling
may_charge v d found k domain may some below small =
    record {
      place = pages_there (sizes_of v.post.machine) d domain;
      marked = tt;
      running = λ needs. may.running;
      spelling = below;
      act = record { more = omega arith };
    }

plus_less : (a b : ℕ) → a + b - a ≡ b
plus_less a b = omega arith

pub charged_hand : (v w : PortValue) (d found k : ℕ) (r : Result (Unit {0}) ℕ) → Moves v w (Pages d) (Cas found (found + k)) kinds.Pages None (found_by found r) → IfErr r (λ other. other ≢ found) →
    MatchResult r (λ done. Holds v w (charged k d v.holdings)) (λ other. Same v w)
charged_hand v w d found k (Ok done) m off =
    ap still m.to ∙ ap (λ h. still (record v { holdings = h })) (if_itself found (record v.holdings { credits = with_more (found + k - found) d v.holdings.credits }) v.holdings)
    ∙ ap (λ j. still (record v { holdings = charged j d v.holdings })) (plus_less found k)
charged_hand v w d found k (Err other) m off =
    ap still m.to ∙ ap (λ b. still (record v { holdings = if b then record v.holdings { credits = with_more (found + k - found) d v.holdings.credits } else v.holdings })) (when_ne other found off)

pub may_refund : (v : PortValue) (d k by : ℕ) → by ≡ 2 ^ 64 - k → d < length v.post.machine.page_limit → MayWork v → 1 ≤ k → k < 2 ^ 64 → k ≤ times d v.holdings.credits → May v (Pages d) (Add by) kinds.Pages None
may_refund v d k by is domain may some small credit =
    record {
      place = pages_there (sizes_of v.post.machine) d domain;
      marked = tt;
      running = λ needs. may.running;
      spelling = omega (arith, is);
      act = record { down = omega (arith, is); some = omega (arith, is); credits = omega (arith, is) };
    }

pub uncharged_hand : (v w : PortValue) (d k by found : ℕ) → by ≡ 2 ^ 64 - k → k < 2 ^ 64 → Moves v w (Pages d) (Add by) kinds.Pages None found → Holds v w (uncharged k d v.holdings)
uncharged_hand v w d k by found is small m =
    let back : 2 ^ 64 - by ≡ k = omega (arith, is) in
    ap still m.to ∙ ap (λ j. still (record v { holdings = uncharged j d v.holdings })) back

-- ---- a frame is taken
module _ (v : PortValue) (f d stamp : ℕ) (frame : f < v.post.machine.frames) (own : d ≡ domain_of v.post.machine v.post.vcpu) (domain : d < length v.post.machine.page_limit) (may : MayWork v) (clock : stamp < 2 ^ 36) where
  module _ (credit : 0 < times d v.holdings.credits) (past : IsUnreachable v.post.machine f stamp v.holdings) where
    allows_claim : AllowsRef v.post.machine v.post.vcpu f v.holdings (ref_read (ref_write (Free stamp))) (ref_read (ref_write (Dying d)))
    allows_claim =
        rw (free_read stamp clock, dying_read d (low_domain v d may domain))
        (record { credit = subst (λ o. 0 < times o v.holdings.credits) own credit; past = past; left = ap (λ o. Dying o) own })

    pub may_take : (e n : ℕ) → e ≡ ref_write (Free stamp) → n ≡ ref_write (Dying d) → May v (Refs f) (Cas e n) kinds.Ref None
    unfolding IsSpelling
    may_take e n from to =
        rw (from, to)
        (record {
          place = refs_there (sizes_of v.post.machine) f frame;
          marked = tt;
          running = λ needs. may.running;
          spelling = rw (dying_read d (low_domain v d may domain)) (inside d (length v.post.machine.page_limit) domain);
          act = allows_claim;
        })

  taken : (w : PortValue) → Moves v w (Refs f) (Cas (ref_write (Free stamp)) (ref_write (Dying d))) kinds.Ref None (ref_write (Free stamp)) → Holds v w (taken_at (length v.holdings.steps + 1) f stamp d v.holdings)
  unfolding ref_write
  taken w m =
      let row = ap (λ a. ref_row a (ref_read (ref_write (Dying d)))) (free_read stamp clock) in
      ap still m.to
      ∙ ap (λ h. still (record v { holdings = h }))
      (if_itself (ref_write (Free stamp)) (after_ref_row (ref_row (ref_read (ref_write (Free stamp))) (ref_read (ref_write (Dying d)))) v.post.machine v.post.vcpu f (ref_write (Free stamp)) v.holdings) v.holdings
      ∙ ap (λ r. after_ref_row r v.post.machine v.post.vcpu f (ref_write (Free stamp)) v.holdings) row)
      ∙ ap (λ o. still (record v { holdings = taken_at (length v.holdings.steps + 1) f stamp o v.holdings })) (sym own)

  pub taken_hand : (w : PortValue) (r : Result (Unit {0}) ℕ) → Moves v w (Refs f) (Cas (ref_write (Free stamp)) (ref_write (Dying d))) kinds.Ref None (found_by (ref_write (Free stamp)) r) →
      IfErr r (λ found. found ≢ ref_write (Free stamp)) → MatchResult r (λ done. Holds v w (taken_at (length v.holdings.steps + 1) f stamp d v.holdings)) (λ found. Same v w)
  taken_hand w (Ok done) m off = taken w m
  taken_hand w (Err found) m off =
      ap still m.to
      ∙ ap (λ b. still (record v { holdings = if b then after_ref_row (ref_row (ref_read (ref_write (Free stamp))) (ref_read (ref_write (Dying d)))) v.post.machine v.post.vcpu f found v.holdings else v.holdings })) (when_ne found (ref_write (Free stamp)) off)

-- ---- the newest one
pub claim_is : (f stamp : ℕ) (h : Holdings) (n : IsNewest f stamp h) → claim_of f h.claimed ≡ Some n.claim
claim_is f stamp h n = ap (λ cs. claim_of f cs) n.newest ∙ first_by-cons_here (λ (c : Claimed). c.frame) f n.claim n.others n.frame

pub claimed_once : (f stamp : ℕ) (h : Holdings) → IsNewest f stamp h → 0 < claims_of f h.claimed
claimed_once f stamp h n = let one = times_by-cons_here (λ (c : Claimed). c.frame) f n.claim n.others n.frame in rw n.newest (omega (arith, one))

no_ending_of : (f : ℕ) (h : Holdings) → h.ending ≡ [] → ending_of f h.ending ≡ None
unfolding first_by
no_ending_of f h none = ap (λ es. ending_of f es) none

rest_claims : (f stamp : ℕ) (h : Holdings) → IsNewest f stamp h → without_claim f h.claimed ≡ behind_newest h.claimed
rest_claims f stamp h n = rw n.newest (without_newest (λ (c : Claimed). c.frame) f n.claim n.others n.frame)

pub raised_once : (f : ℕ) (h : Holdings) → IsRaised f h → 0 < times f h.raised
raised_once f h r = let one = times_by-cons_here (λ (g : ℕ). g) f f r.others refl in rw r.newest (omega (arith, one))

rest_raised : (f : ℕ) (h : Holdings) → IsRaised f h → without_by (λ g. g) f h.raised ≡ behind_newest h.raised
rest_raised f h r = rw r.newest (without_newest (λ (g : ℕ). g) f f r.others refl)

-- ---- it is free again
module _ (v : PortValue) (f d stamp : ℕ) (clock : stamp < 2 ^ 36) (own : d ≡ domain_of v.post.machine v.post.vcpu) (n : IsNewest f stamp v.holdings) (r : IsRaised f v.holdings) where
  free_told : IsFreeStamp v.post.machine stamp v.holdings (ending_of f v.holdings.ending) (claim_of f v.holdings.claimed)
  free_told = rw (no_ending_of f v.holdings n.no_ending, claim_is f stamp v.holdings n) (sym n.stamped)

  pub may_free_again : (w : ℕ) → f < v.post.machine.frames → MayWork v → w ≡ ref_write (Free stamp) → May v (Refs f) (Store w) kinds.Ref None
  unfolding IsSpelling
  may_free_again w frame may is =
      let read = free_read stamp clock in
      rw is
      (record {
        place = refs_there (sizes_of v.post.machine) f frame;
        marked = tt;
        running = λ needs. may.running;
        spelling = rw read refl;
        act = rw read (record { raised = raised_once f v.holdings r; was_found = free_told });
      })

  pub freed_hand : (w : PortValue) (found : ℕ) → Moves v w (Refs f) (Store (ref_write (Free stamp))) kinds.Ref None found → Holds v w (freed_again d v.holdings)
  freed_hand w found m =
      let h = v.holdings in
      ap still m.to
      ∙ ap (λ o. still (record v { holdings = after_ref_store o v.post.machine v.post.vcpu f h })) (free_read stamp clock)
      ∙ ap (λ es. still (record v { holdings = record h { ending = es; claimed = without_claim f h.claimed; raised = without_by (λ g. g) f h.raised; credits = credited v.post.machine v.post.vcpu (ending_of f h.ending) ∷ h.credits } }))
      (without_nil (λ (e : Ending). e.frame) f h.ending n.no_ending)
      ∙ ap (λ cs. still (record v { holdings = record h { claimed = cs; raised = without_by (λ g. g) f h.raised; credits = credited v.post.machine v.post.vcpu (ending_of f h.ending) ∷ h.credits } })) (rest_claims f stamp h n)
      ∙ ap (λ rs. still (record v { holdings = record h { claimed = behind_newest h.claimed; raised = rs; credits = credited v.post.machine v.post.vcpu (ending_of f h.ending) ∷ h.credits } })) (rest_raised f h r)
      ∙ ap (λ o. still (record v { holdings = record h { claimed = behind_newest h.claimed; raised = behind_newest h.raised; credits = credited v.post.machine v.post.vcpu o ∷ h.credits } })) (no_ending_of f h n.no_ending)
      ∙ ap (λ o. still (record v { holdings = freed_again o h })) (sym own)

-- ---- it is scrubbed
module _ (f i : ℕ) (h : Holdings) (s : MayScrub f i h) where
  pub scrubs_claim : claim_of f h.claimed ≡ Some s.claim
  scrubs_claim = ap (λ cs. claim_of f cs) s.newest ∙ first_by-cons_here (λ (c : Claimed). c.frame) f s.claim s.others s.frame

  pub no_lock : lock_on f h.locks ≡ None
  unfolding first_by
  no_lock = ap (λ es. lock_on f es) s.no_locks

  same_works : changed_by (λ e. e.frame) f (learned_work i 0) h.works ≡ h.works
  unfolding changed_by
  same_works = ap (λ xs. changed_by (λ e. e.frame) f (learned_work i 0) xs) s.no_works ∙ sym s.no_works

  same_locks : changed_by (λ e. e.frame) f (learned_lock i 0) h.locks ≡ h.locks
  unfolding changed_by
  same_locks = ap (λ xs. changed_by (λ e. e.frame) f (learned_lock i 0) xs) s.no_locks ∙ sym s.no_locks

  one_more : learned_claim i 0 s.claim ≡ record s.claim { scrubbed = i + 1 }
  one_more =
      ap (λ b. record s.claim { scrubbed = if b && (0 == 0) then s.claim.scrubbed + 1 else s.claim.scrubbed }) (when_eq i s.claim.scrubbed (sym s.scrubbed))
      ∙ ap (λ (k : ℕ). record s.claim { scrubbed = k + 1 }) s.scrubbed

  claims : changed_by (λ e. e.frame) f (learned_claim i 0) h.claimed ≡ scrubbed_to (i + 1) h.claimed
  claims =
      rw s.newest
      (changed_head (λ (c : Claimed). c.frame) f (learned_claim i 0) s.claim s.others s.frame ∙ ap (λ c. c ∷ s.others) one_more)

  learned : learned_cell f i 0 h ≡ scrubbed_newest (i + 1) h
  learned =
      ap (λ xs. record h { works = xs; locks = changed_by (λ e. e.frame) f (learned_lock i 0) h.locks; claimed = changed_by (λ e. e.frame) f (learned_claim i 0) h.claimed }) same_works
      ∙ ap (λ xs. record h { locks = xs; claimed = changed_by (λ e. e.frame) f (learned_claim i 0) h.claimed }) same_locks
      ∙ ap (λ xs. record h { claimed = xs }) claims

pub may_scrub : (v : PortValue) (f i : ℕ) → f < v.post.machine.frames → i < 512 → MayWork v → MayScrub f i v.holdings → May v (Cell f i) (Store 0) kinds.Cell None
unfolding IsSpelling
may_scrub v f i frame index may s =
    record {
      place = cell_there (sizes_of v.post.machine) f i frame index;
      marked = tt;
      running = λ needs. may.running;
      spelling = omega arith;
      act = rw (no_lock f i v.holdings s, scrubs_claim f i v.holdings s) refl;
    }

pub scrubbed_hand : (v w : PortValue) (f i found : ℕ) → MayScrub f i v.holdings → Moves v w (Cell f i) (Store 0) kinds.Cell None found → Holds v w (scrubbed_newest (i + 1) v.holdings)
unfolding left_by
scrubbed_hand v w f i found s m =
    ap still m.to
    ∙ ap (λ o. still (record v { holdings = learned_cell f i 0 (exchanged i 0 found o v.holdings) })) (no_lock f i v.holdings s)
    ∙ ap (λ h. still (record v { holdings = h })) (learned f i v.holdings s)

-- ---- its machine-to-physical word, and its bit
pub may_map_claimed : (v : PortValue) (f stamp g : ℕ) → f < v.post.machine.frames → MayWork v → g < 2 ^ 64 → IsNewest f stamp v.holdings → May v (M2p f) (Store g) kinds.M2p None
unfolding IsSpelling
may_map_claimed v f stamp g frame may small n =
    record {
      place = m2p_there (sizes_of v.post.machine) f frame;
      marked = tt;
      running = λ needs. may.running;
      spelling = small;
      act = record { in_hand = inr (claimed_once f stamp v.holdings n) };
    }

pub mapped_hand : (v w : PortValue) (f g found : ℕ) → Moves v w (M2p f) (Store g) kinds.M2p None found → Same v w
mapped_hand v w f g found m = ap still m.to

lowers_itself : (f : ℕ) → is_lower (f / 64) (2 ^ 64 - map_bit f) f ≡ true
lowers_itself f = grind (arith, nat_tests)

first_lower : (f : ℕ) (xs : List ℕ) → first_of (is_lower (f / 64) (2 ^ 64 - map_bit f)) (f ∷ xs) ≡ Some f
unfolding first_of
first_lower f xs = rw (lowers_itself f) refl

module _ (v : PortValue) (f stamp : ℕ) (n : IsNewest f stamp v.holdings) (r : IsRaised f v.holdings) where
  pub may_clear_bit : (by : ℕ) → f < v.post.machine.frames → MayWork v → by ≡ 2 ^ 64 - map_bit f → by < 2 ^ 64 → May v (Map (f / 64)) (Add by) kinds.Hint None
  may_clear_bit by frame may is small =
      rw is
      (record {
        place = map_there (sizes_of v.post.machine) f frame;
        marked = tt;
        running = λ needs. may.running;
        spelling = subst (λ k. k < 2 ^ 64) is small;
        act = inr (record { frame = f; adds = lowers_itself f; held = claimed_once f stamp v.holdings n; raised = raised_once f v.holdings r });
      })

  lowered_raised : raised_by (lowered_frame (f / 64) (2 ^ 64 - map_bit f) v.holdings) (raised_frame (f / 64) (2 ^ 64 - map_bit f) v.holdings) v.holdings.raised ≡ behind_newest v.holdings.raised
  lowered_raised =
      let first : lowered_frame (f / 64) (2 ^ 64 - map_bit f) v.holdings ≡ Some f = ap (λ xs. first_of (is_lower (f / 64) (2 ^ 64 - map_bit f)) xs) r.newest ∙ first_lower f r.others in
      ap (λ o. raised_by o (raised_frame (f / 64) (2 ^ 64 - map_bit f) v.holdings) v.holdings.raised) first ∙ rest_raised f v.holdings r

  pub lowered_hand : (w : PortValue) (found : ℕ) → Moves v w (Map (f / 64)) (Add (2 ^ 64 - map_bit f)) kinds.Hint None found → Holds v w (lowered_newest v.holdings)
  lowered_hand w found m = ap still m.to ∙ ap (λ rs. still (record v { holdings = record v.holdings { raised = rs } })) lowered_raised

-- ---- it is given
module _ (v : PortValue) (f d stamp : ℕ) (own : d ≡ domain_of v.post.machine v.post.vcpu) (domain : d < length v.post.machine.page_limit) (may : MayWork v) (n : IsNewest f stamp v.holdings) where
  pub may_give : (w : ℕ) → f < v.post.machine.frames → MayScrub f 512 v.holdings → times f v.holdings.raised ≡ 0 → w ≡ ref_write (Owned d true 1) → May v (Refs f) (Store w) kinds.Ref None
  unfolding IsSpelling
  may_give w frame clean lowered is =
      let read = owned_read d (low_domain v d may domain) in
      let some = may.machine.some_count in
      let some_is : nat_le 1 v.post.machine.limit ≡ true = grind (arith, nat_tests) in
      rw is
      (record {
        place = refs_there (sizes_of v.post.machine) f frame;
        marked = tt;
        running = λ needs. may.running;
        spelling = rw (read, inside d (length v.post.machine.page_limit) domain, some_is) refl;
        act = rw read (record { own = own; marked = refl; one = refl; claimed = clean.claim; here = scrubs_claim f 512 v.holdings clean; scrubbed = clean.scrubbed; lowered = lowered });
      })

  pub given_hand : (w : PortValue) (found : ℕ) → Moves v w (Refs f) (Store (ref_write (Owned d true 1))) kinds.Ref None found → Holds v w (given_newest v.holdings)
  given_hand w found m =
      ap still m.to
      ∙ ap (λ o. still (record v { holdings = after_ref_store o v.post.machine v.post.vcpu f v.holdings })) (owned_read d (low_domain v d may domain))
      ∙ ap (λ cs. still (record v { holdings = record v.holdings { claimed = cs } })) (rest_claims f stamp v.holdings n)

pub ruleset rows = (pages_there, map_word_there, may_charge, charged_hand, may_refund, uncharged_hand, may_take, taken_hand, may_free_again, freed_hand, may_scrub, scrubbed_hand, may_map_claimed, mapped_hand, may_clear_bit, lowered_hand, may_give, given_hand)
