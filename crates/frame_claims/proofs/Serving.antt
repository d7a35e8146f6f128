-- What is asked of a block's frames, and what a guest sees of the steps on them: nothing, but that they are given.
use Rattle.std.proofs.Common.{◌≡◌, ◌≢◌, append-nil, ℕ, suc, ◌+◌, ◌-◌, ◌/◌, ◌^◌, ◌<◌, ◌≤◌, ◌==◌, ◌++◌, ◌||◌, not, nat_lt, true, List, [], ◌∷◌, None, refl, ap, subst, inl, inr, arith}
use Rattle.xp_words.specs.Machine.{Machine}
use Rattle.xp_words.specs.RefWords.{ref_write}
use Rattle.xp_words.specs.declared.place.Place.TheVariants.{Refs, M2p, Cell, Map}
use Rattle.xp_words.specs.declared.refs.RefWord.TheVariants.{Free, Owned, Dying}
use Rattle.xp_words.proofs.Shared.{eq_false as when_ne}
use Rattle.xp_board.specs.declared.holdings.Holdings.{Holdings}
use Rattle.xp_board.specs.declared.step.Act.TheVariants.{Cas, Store, Add}
use Rattle.xp_board.specs.declared.step.StepKind.TheVariants as kinds
use Rattle.xp_board.specs.Hands.{empty, hand, claims_of, typed_hand, work_on}
use Rattle.xp_board.specs.HintSteps.{map_bit}
use Rattle.xp_board.specs.M2pSteps.{MayMap}
use Rattle.xp_board.specs.Lists.{first_by, times_by}
use Rattle.xp_board.specs.Readings.{allocated_mark}
use Rattle.xp_board.specs.Told.{PortValue}
use Rattle.xp_board.proofs.Sums.{when_eq}
use Rattle.std.proofs.lemmas.Bool.Decides.{nat_tests}
use Rattle.step_maker.specs.Moves.{Moves, Met}
use Rattle.step_maker.specs.Answers.{Deed, Gives, Misses, SetsM2p, Serves, deeds_by, only_if, stored_cell}
use Rattle.step_maker.specs.Asked.{Request, IsAsked, named, of}
use Rattle.step_maker.specs.Finding.{Finding}
use Rattle.step_maker.proofs.Piecing.{serves_step}
use Rattle.frame_words.proofs.FreeSteps.{free_read}
use Rattle.claim_words.specs.Claims.{MayScrub}
use Rattle.claim_words.proofs.ClaimSteps.{no_lock, owned_read, scrubs_claim}
use Rattle.frame_claims.specs.Blocks.{IsBlockOf, IsPlain, ServesBlock, given_deeds}

-- ---- asked
pub block_asks : (n : Machine) (s f : ℕ) (r : Request) (F : Finding) (first k : ℕ) → IsBlockOf r first k → first ≤ f → f < first + k → IsAsked n s r F f
block_asks n s f r F first k b low high = of r.owner None (named (b.names f low high) refl tt)

one_asks : (n : Machine) (s f : ℕ) (r : Request) (F : Finding) → IsBlockOf r f 1 → IsAsked n s r F f
one_asks n s f r F b = block_asks n s f r F f 1 b (omega arith) (omega arith)

pub fewer_of : (r : Request) (first k at m : ℕ) → IsBlockOf r first k → first ≤ at → at + m ≤ first + k → IsBlockOf r at m
fewer_of r first k at m b low high =
    record { number = b.number; pages = b.pages; names = λ g l h. b.names g (omega (arith, low, l)) (omega (arith, high, h)) }

-- ---- no deeds
no_write : (f i x j : ℕ) (h : Holdings) → MayScrub f j h → stored_cell f i x 0 h ≡ []
unfolding first_by
no_write f i x j h s =
    let work = ap (λ es. work_on f es) s.no_works in
    rw (no_lock f j h s, scrubs_claim f j h s, work) refl

no_hand : (f : ℕ) (h : Holdings) → IsPlain h → hand f h ≡ 0
unfolding hand typed_hand times_by
no_hand f h p = rw (p.refs, p.typed, p.locks) refl

-- its machine-to-physical word is stored since the frame is claimed
no_map : (f g : ℕ) (h : Holdings) → IsPlain h → MayMap f h → only_if (nat_lt 0 (hand f h) || not (nat_lt 0 (claims_of f h.claimed))) (SetsM2p f g) ≡ []
no_map f g h p may =
    elim may.in_hand [
      | inl some ↦ absurd (let none = no_hand f h p in omega arith)
      | inr some ↦ let claimed : nat_lt 0 (claims_of f h.claimed) ≡ true = grind (arith, nat_tests) in rw (no_hand f h p, claimed) refl
    ]

one_given : (f d : ℕ) → d < 2 ^ 16 → only_if (allocated_mark (ref_write (Owned d true 1)) == 1) (Gives f) ≡ Gives f ∷ []
unfolding allocated_mark
one_given f d low = rw (owned_read d low) refl

none_given : (f stamp : ℕ) → stamp < 2 ^ 36 → only_if (allocated_mark (ref_write (Free stamp)) == 1) (Gives f) ≡ []
unfolding allocated_mark
none_given f stamp low = rw (free_read stamp low) refl

-- ---- steps
pub scrubs : (v u w : PortValue) (f i x : ℕ) → MayScrub f i u.holdings → ServesBlock v u f 1 [] → Moves u w (Cell f i) (Store 0) kinds.Cell None x → ServesBlock v w f 1 []
scrubs v u w f i x s before m r b =
    subst (λ ds. Serves v w r (ds ++ [])) (no_write f i x i u.holdings s)
    (serves_step v u w r [] (Cell f i) (Store 0) kinds.Cell None x (before r b) m (one_asks v.post.machine v.post.vcpu f r (Met v w) b))

pub gives_one : (v a b c w : PortValue) (f d g x y z : ℕ) → d < 2 ^ 16 → ServesBlock v a f 1 [] → IsPlain a.holdings → Moves a b (M2p f) (Store g) kinds.M2p None x →
    Moves b c (Map (f / 64)) (Add (2 ^ 64 - map_bit f)) kinds.Hint None y → Moves c w (Refs f) (Store (ref_write (Owned d true 1))) kinds.Ref None z → ServesBlock v w f 1 (Gives f ∷ [])
gives_one v a b c w f d g x y z low before plain m2p bit give r blk =
    let asks : (F : Finding) → IsAsked v.post.machine v.post.vcpu r F f = λ F. one_asks v.post.machine v.post.vcpu f r F blk in
    let one = subst (λ ds. Serves v b r (ds ++ [])) (no_map f g a.holdings plain m2p.may.act) (serves_step v a b r [] (M2p f) (Store g) kinds.M2p None x (before r blk) m2p (asks (Met v b))) in
    let two = serves_step v b c r [] (Map (f / 64)) (Add (2 ^ 64 - map_bit f)) kinds.Hint None y one bit (f, refl, asks (Met v c)) in
    subst (λ ds. Serves v w r (ds ++ [])) (one_given f d low)
    (serves_step v c w r [] (Refs f) (Store (ref_write (Owned d true 1))) kinds.Ref None z two give (asks (Met v w), tt))

-- a frame that is free again
pub frees_one : (v u w : PortValue) (first k f stamp x : ℕ) → stamp < 2 ^ 36 → first ≤ f → f < first + k → (ds : List Deed) → ServesBlock v u first k ds → Moves u w (Refs f) (Store (ref_write (Free stamp))) kinds.Ref None x → ServesBlock v w first k ds
frees_one v u w first k f stamp x low from to ds before m r b =
    subst (λ es. Serves v w r (es ++ ds)) (none_given f stamp low)
    (serves_step v u w r ds (Refs f) (Store (ref_write (Free stamp))) kinds.Ref None x (before r b) m (block_asks v.post.machine v.post.vcpu f r (Met v w) first k b from to, tt))

pub given_more : (first k : ℕ) → given_deeds first (k + 1) ≡ Gives (first + k) ∷ given_deeds first k
given_more first k = let e : k + 1 ≡ suc k = omega arith in rw e refl

-- ---- a frame is taken, or another vCPU was there first
free_mark : (stamp : ℕ) → stamp < 2 ^ 36 → allocated_mark (ref_write (Free stamp)) ≡ 0
unfolding allocated_mark
free_mark stamp low = rw (free_read stamp low) refl

none_taken : (f stamp w : ℕ) → stamp < 2 ^ 36 → deeds_by (Refs f) (Cas (ref_write (Free stamp)) w) kinds.Ref (ref_write (Free stamp)) empty ≡ []
none_taken f stamp w low = rw (when_eq (ref_write (Free stamp)) (ref_write (Free stamp)) refl, free_mark stamp low) refl

one_missed : (f e w x : ℕ) → x ≢ e → deeds_by (Refs f) (Cas e w) kinds.Ref x empty ≡ Misses (Refs f) ∷ []
one_missed f e w x off = rw (when_ne x e off) refl

module _ (v u w : PortValue) (first k f d stamp : ℕ) (low : stamp < 2 ^ 36) (from : first ≤ f) (to : f < first + k) (before : ServesBlock v u first k []) where
  takes : (x : ℕ) → Moves u w (Refs f) (Cas (ref_write (Free stamp)) (ref_write (Dying d))) kinds.Ref None x → (ds : List Deed) →
      deeds_by (Refs f) (Cas (ref_write (Free stamp)) (ref_write (Dying d))) kinds.Ref x empty ≡ ds → ServesBlock v w first k ds
  takes x m ds is r b =
      subst (Serves v w r) (append-nil ds)
      (subst (λ es. Serves v w r (es ++ [])) is
      (serves_step v u w r [] (Refs f) (Cas (ref_write (Free stamp)) (ref_write (Dying d))) kinds.Ref None x (before r b) m
      (block_asks v.post.machine v.post.vcpu f r (Met v w) first k b from to, λ free. (b.number, b.pages))))

  pub takes_one : Moves u w (Refs f) (Cas (ref_write (Free stamp)) (ref_write (Dying d))) kinds.Ref None (ref_write (Free stamp)) → ServesBlock v w first k []
  takes_one m = takes (ref_write (Free stamp)) m [] (none_taken f stamp (ref_write (Dying d)) low)

  pub takes_none : (x : ℕ) → x ≢ ref_write (Free stamp) → Moves u w (Refs f) (Cas (ref_write (Free stamp)) (ref_write (Dying d))) kinds.Ref None x → ServesBlock v w first k (Misses (Refs f) ∷ [])
  takes_none x off m = takes x m (Misses (Refs f) ∷ []) (one_missed f (ref_write (Free stamp)) (ref_write (Dying d)) x off)
