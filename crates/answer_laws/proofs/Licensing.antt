-- What licenses an answer of calls of every kind.
use Rattle.std.proofs.Common.{◌≡◌, ℕ, ◌<◌, ◌≤◌, ◌+◌, ◌/◌, ◌==◌, ◌||◌, not, Bool, true, false, length, Option, Some, None, IsTrue, refl, sym, ◌∙◌, subst, inl, inr, arith}
use Rattle.xp_words.specs.Machine.{Machine}
use Rattle.xp_words.specs.RefWords.{ref_read}
use Rattle.xp_words.specs.declared.kind.PageType.{PageType}
use Rattle.xp_words.specs.declared.kind.PageType.TheVariants as kinds
use Rattle.xp_words.specs.declared.place.Place.TheVariants.{Cell, Kind, Priv, Refs, Vcpu}
use Rattle.xp_words.specs.declared.reply.Pause.TheVariants.{Due}
use Rattle.xp_words.specs.declared.reply.Stop.TheVariants.{Refused, Paused}
use Rattle.xp_words.specs.declared.reply.Refusal.TheVariants.{NoFree, NoPrivilege, NotMapped, OtherType, ReadOnly, WrongOwner}
use Rattle.xp_board.specs.Told.{PortValue}
use Rattle.step_maker.specs.Moves.{Met}
use Rattle.step_maker.specs.Answers.{Stops}
use Rattle.xp_board.specs.Readings.{domain_of, has_now, is_context, is_frame_word, is_live_as, owner_of}
use Rattle.xp_board.proofs.PlaceTests.{equal_by}
use Rattle.xp_board.proofs.Sums.{when_eq}
use Rattle.step_maker.specs.Asked.{Asked, IsAsked, IsFor, Request, back, context, demanded, doomed, entered, named, of, of_block, of_destroy, of_grant, of_old, of_return, walked}
use Rattle.step_maker.specs.Finding.{Finding, FoundAt}
use Rattle.step_maker.specs.Licences.{HasTakenAll, IsReached, below, is_allocated, over_itself, to_grant, top}
use Rattle.step_maker.specs.Pauses.{LeftAs, vcpu}
use Rattle.step_maker.specs.Reasons.{AwaitsStamp, FoundFreeBy, Whose, begun, free, goes_on, marked, other}
use Rattle.answer_laws.specs.Walked.{SeenBelow}
use Rattle.answer_laws.proofs.Meeting.{none_some}

-- ---- blocks
module _ (n : Machine) (s owner size block : ℕ) (F : Finding) where
  -- it asks frames of its own block alone, and no type of them
  of_its_block : (f o : ℕ) (k : Option PageType) → Asked n s (of_block owner size block) F f o k → (f / size ≡ block) × IsFor k None
  of_its_block f o k (named a b c) = (equal_by (f / size) block a, c)
  of_its_block f o k (demanded t i w h a b c d) = absurd cc
  of_its_block f o k (entered t i w l m a b c d e g x y) = absurd cc
  of_its_block f o k (walked t i w a b c d e) = absurd cc
  of_its_block f o k (context v j w a b c d e g i) = absurd cc
  of_its_block f o k (of_old v j w x a b c d e g i y z) = absurd cc
  of_its_block f o k (doomed d x a b c e g) = absurd cc

  in_its_block : (f : ℕ) → IsAsked n s (of_block owner size block) F f → f / size ≡ block
  in_its_block f (of o k a) = (of_its_block f o k a).0
  in_its_block f (back a) = absurd cc

  no_type : (t : PageType) (f o : ℕ) → Asked n s (of_block owner size block) F f o (Some t) → ⊥
  no_type t f o a = let none = (of_its_block f o (Some t) a).1 in cc

  own_block : (whose : Whose) (stamp : ℕ) → AwaitsStamp n s (of_block owner size block) F whose stamp → (g : ℕ) → g / size ≡ block → g < n.frames → FoundFreeBy F g stamp
  own_block whose stamp (marked f w o want h a b c d e i j) g is inside = absurd (no_type want f o a)
  own_block whose stamp (other f w o want h a b c d e i j) g is inside = absurd (no_type want f o a)
  own_block whose stamp (free f w k z a same asks c d all e at) g is inside =
      let size_is : z ≡ size = cc in
      subst (λ y. FoundFreeBy F g y) (sym at) (all g (subst (λ y. g / y ≡ f / y) (sym size_is) (is ∙ sym (in_its_block f asks))) inside)
  own_block whose stamp (begun x a b c d) g is inside = absurd cc
  own_block whose stamp (goes_on x m a b c d e) g is inside = absurd cc

pub own_block_met : (v w : PortValue) (owner size block : ℕ) (whose : Whose) (stamp : ℕ) → AwaitsStamp v.post.machine v.post.vcpu (of_block owner size block) (Met v w) whose stamp →
    (g : ℕ) → g / size ≡ block → g < v.post.machine.frames → FoundFreeBy (Met v w) g stamp
own_block_met v w owner size block whose stamp a g is inside = own_block v.post.machine v.post.vcpu owner size block (Met v w) whose stamp a g is inside

pub one_pass : (v w : PortValue) (owner size block : ℕ) → Stops v w (of_block owner size block) (Refused NoFree) → HasTakenAll v.post.machine size (Met v w)
unfolding Stops
one_pass v w owner size block a = let same : a.0 ≡ size = let is = a.1 in cc in subst (λ y. HasTakenAll v.post.machine y (Met v w)) same a.2

pub not_returned : (v w : PortValue) (f owner x : ℕ) → FoundAt (Met v w) (Refs f) x → is_allocated (ref_read x) ≡ false → Stops v w (of_return f owner) (Refused (WrongOwner f x))
unfolding Stops
not_returned v w f owner x found off = (owner, None, named (when_eq f f refl) refl tt, found, inr (refl, off))

-- ---- destruction
pub doomed_asked : (v w : PortValue) (d f x : ℕ) (rose : Bool) → FoundAt (Met v w) (Refs f) x → owner_of x ≡ Some d → IsAsked v.post.machine v.post.vcpu (of_destroy d rose) (Met v w) f
doomed_asked v w d f x rose found its = of d None (doomed d x refl found its refl tt)

pub due_behind : (v w : PortValue) (d u : ℕ) → u < length v.post.machine.vcpu_domain → domain_of v.post.machine u ≡ d → ((k : ℕ) → k < 38 → IsTrue (is_context k) → LeftAs (Met v w) (Vcpu u k) (λ x. x == 0)) →
    Stops v w (of_destroy d true) (Paused Due)
unfolding Stops
due_behind v w d u real its empty = (refl, inr (vcpu d u refl real its empty))

-- ---- privileges
pub not_itself : (v w : PortValue) (own : ℕ) (rose : Bool) → own ≡ domain_of v.post.machine v.post.vcpu → Stops v w (of_destroy own rose) (Refused (NoPrivilege own own))
unfolding Stops
not_itself v w own rose is = over_itself refl is refl

either : (a b : Bool) → b ≡ true → IsTrue (a || b)
either true b on = refl
either false b on = on

pub not_granted : (v w : PortValue) (own to over x : ℕ) → own ≡ domain_of v.post.machine v.post.vcpu → FoundAt (Met v w) (Priv own) x → has_now over x ≡ false → Stops v w (of_grant to over) (Refused (NoPrivilege own over))
unfolding Stops
not_granted v w own to over x is found off = to_grant to refl (either (over == to) (over == over) (when_eq over over refl)) is x found (rw off refl)

-- ---- walks
pub asked_type : (v w : PortValue) (r : Request) (f x : ℕ) (want : PageType) → r.index ≡ None → Stops v w r (Refused (OtherType f want x)) → (owner : ℕ) × Asked v.post.machine v.post.vcpu r (Met v w) f owner (Some want)
unfolding Stops
asked_type v w r f x want plain (inl a) = (a.0, a.2)
asked_type v w r f x want plain (inr a) = absurd (none_some r.index a.1.0 plain a.1.1)

module _ (n : Machine) (s : ℕ) (F : Finding) where
  low_enough : (level t : ℕ) → IsReached n s F level t → level ≤ 4
  low_enough _ t (top k w _ a b c) = omega arith
  low_enough level _ (below _ u i w a b c) = let above = low_enough (level + 1) u a in omega (arith, above)

  -- the table, and the base that names it
  from_base : (level t : ℕ) → level ≡ 4 → IsReached n s F level t → (k base : ℕ) × (k < 2) × FoundAt F (Vcpu s k) base × IsTrue (is_frame_word t base)
  from_base _ t four (top k w _ a b c) = (k, w, a, b, c)
  from_base level _ four (below _ u i w a b c) = absurd (let above = low_enough (level + 1) u a in omega (arith, above, four))

  -- the entry that names it, the table of that, and the base
  from_entry : (level t j e : ℕ) → level ≡ 3 → IsReached n s F level t → FoundAt F (Cell t j) e → SeenBelow n s F e
  from_entry _ t j e three (top k w _ a b c) found = absurd (omega (arith, three))
  from_entry level _ j e three (below _ u i w a b c) found =
      let up = from_base (level + 1) u (omega (arith, three)) a in
      record { k = up.0; base = up.1; table = u; index = i; entry = w; lower = j; is_base = up.2; names = up.3; is_table = up.4; above = b; mapped = c; found = found }

pub walked_to : (v w : PortValue) (r : Request) (e : ℕ) → Stops v w r (Refused (NotMapped 3 e)) → SeenBelow v.post.machine v.post.vcpu (Met v w) e
unfolding Stops
walked_to v w r e (inl a) = absurd (let five = a.0 in omega (arith, five))
walked_to v w r e (inr a) = let at = a.3 in from_entry v.post.machine v.post.vcpu (Met v w) 3 at.0 at.1 e refl at.2 at.3

pub no_table : (v w : PortValue) (r : Request) (e : ℕ) → r.stores ≡ false → Stops v w r (Refused (ReadOnly e)) → (f x : ℕ) × IsTrue (r.names f) × FoundAt (Met v w) (Kind f) x × IsTrue (not (is_live_as kinds.L1 x))
unfolding Stops
no_table v w r e off (a, c, inl on) = absurd (let same = sym off ∙ on in cc)
no_table v w r e off (a, c, inr (f, x, names, i, found, dead)) = (f, x, names, found, dead)
