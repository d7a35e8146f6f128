-- The next entry of a table is refused: so it is on the plain value without the references that are lent, if no count is at the limit.
use Rattle.std.proofs.Common.{◌≡◌, ℕ, ◌+◌, ◌-◌, ◌<◌, ◌==◌, ◌&&◌, not, nat_le, nat_lt, if◌then◌else◌, Bool, true, false, List, [], ◌∷◌, Option, Some, None, Err, refl, sym, ap, ◌∙◌, subst, inl, inr, arith, ◌⊎◌}
use Rattle.std.proofs.Math.Path.{fun_ext}
use Rattle.std.proofs.lemmas.Bool.Decides.{nat_tests}
use Rattle.xp_words.specs.Machine.{IsMachine, Machine}
use Rattle.xp_words.specs.KindWords.{kind_fields}
use Rattle.xp_words.specs.declared.entry.Demand.{Demand}
use Rattle.xp_words.specs.declared.entry.Demand.TheVariants as demands
use Rattle.xp_words.specs.declared.kind.PageType.{PageType}
use Rattle.xp_words.specs.declared.place.Place.TheVariants.{Cell, Kind, Refs}
use Rattle.xp_words.specs.declared.reply.Pause.TheVariants as pauses
use Rattle.xp_words.specs.declared.reply.Refusal.{Refusal}
use Rattle.xp_words.specs.declared.reply.Refusal.TheVariants as refusals
use Rattle.xp_words.specs.declared.reply.Stop.{Stop}
use Rattle.xp_words.specs.declared.reply.Stop.TheVariants.{Refused, Paused}
use Rattle.xp_board.specs.Readings.{is_dead, is_type, kind_at}
use Rattle.xp_board.specs.KindSteps.{raised_kind}
use Rattle.xp_board.specs.Told.{PortValue, told_word}
use Rattle.table_law.proofs.Describing.{sober_dead}
use Rattle.step_maker.specs.Plain.{Leaves, Words}
use Rattle.frame_words.specs.Plain.{got, put, refer}
use Rattle.frame_types.specs.Plain.{stop_by, type_stop}
use Rattle.partial_state.specs.Levels.{level_type}
use Rattle.partial_state.specs.declared.stack.TableWork.{TableWork}
use Rattle.table_entries.specs.Plain.{EntersPlainly, RefersPlainly, TypedPlainly}
use Rattle.table_law.specs.Alone.{Cause, CountFull, NoFrame, OtherType, PlainOutcome, Reserved, WrongOwner, fine, is_counted, meet, refused, take_at, take_kind, take_reference, take_reference_of, then_by}
use Rattle.table_law.specs.Plain.{Describes, Plain, Share, at, fewer, raised_share, reference_back, with_kind, with_share}
use Rattle.table_law.proofs.Counting.{at_here}
use Rattle.table_law.proofs.Returning.{like_itself, share_back}
use Rattle.table_twins.specs.Answers.{IsCause, IsSameAnswer}
use Rattle.table_twins.proofs.Entering.{described_leaves}
use Rattle.table_twins.proofs.Referring.{same_answer}
use Rattle.table_twins.proofs.Sharing.{count_some, same_back}
use Rattle.table_twins.proofs.Typing.{at_level, refused_plain}
use Rattle.table_twins.proofs.Waiting.{only_busy}
use Rattle.course_laws.proofs.Frames.{IsAbove, dead_stands}
use Rattle.course_laws.proofs.Extras.{IsSame, described_same, extra, lent, more_of, refers}
use Rattle.course_laws.proofs.Recording.{got_one, taking, with_one}
use Rattle.course_laws.proofs.Under.{PlainFrames, PlainTables, Spelled, TableOf}

-- it is not for a count at its limit
abbrev pub IsRoomy : Refusal → Type 0
IsRoomy (refusals.CountFull f w) = ⊥
IsRoomy _ = Unit {0}

-- It is for what the words say: not because the clock stands at its last value; and for a count at its limit only where nothing is lent.
abbrev pub IsForWords : Bool → Refusal → Type 0
IsForWords whole (refusals.CountFull f w) = whole ≡ true
IsForWords whole (refusals.Clock x) = ⊥
IsForWords whole _ = Unit {0}

-- The outcome o is a refusal, for the cause of y, and leaves p.
pub record IsFor (y : Refusal) (p : Plain) (o : PlainOutcome) : Type 0 where
  pub cause : Cause
  pub same : IsCause y cause
  pub is : o ≡ refused cause p

-- so it is of an entry of which the words w are described as they were before, but for the references that are lent
pub record Unmet (w : PortValue) (n : Machine) (x : ℕ → ℕ) (y : Refusal) (p : Plain) (o : PlainOutcome) : Type 0 where
  pub refuses : IsFor y p o
  pub describes : Describes n (told_word w) (lent x p)

-- a frame to which references may be lent: the owner holds it
pub record Lender (owner : ℕ) (p : Plain) (g : ℕ) : Type 0 where
  pub share : Share
  pub was : p.shares g ≡ Some share
  pub owns : (share.owner == owner) ≡ true
  pub some : 0 < share.count

abbrev pub IsLent : ℕ → (ℕ → ℕ) → Plain → ℕ → Type 0
IsLent owner x p g = (x g ≡ 0) ⊎ Lender owner p g

lender_by : (b : Bool) (n : Machine) (owner : ℕ) (p : Plain) (t : TableWork) (ts : List TableWork) (g : ℕ) → (g == t.frame) ≡ b → TableOf n owner p t → IsLent owner (extra ts) p g → IsLent owner (extra (t ∷ ts)) p g
lender_by true n owner p t ts g is table others =
    let e : g ≡ t.frame = grind (arith, nat_tests) in
    inr (record { share = table.share; was = ap p.shares e ∙ table.was; owns = table.owns; some = table.some })
lender_by false n owner p t ts g is table (inr lender) = inr lender
lender_by false n owner p t ts g is table (inl none) =
    let one : ℕ = if g == t.frame then 1 else 0 in
    let off : one ≡ 0 = ap (λ b. if b then 1 else 0) is in
    let rest : 0 + extra ts g ≡ extra ts g = omega arith in
    inl (ap (λ k. k + extra ts g) (nothing t.own one off) ∙ (rest ∙ none))
  where
    nothing : (b : Bool) (k : ℕ) → k ≡ 0 → (if b then 0 else k) ≡ 0
    nothing true k off = refl
    nothing false k off = off

pub lenders : (n : Machine) (owner : ℕ) (p : Plain) (ts : List TableWork) → PlainTables n owner p ts → (g : ℕ) → IsLent owner (extra ts) p g
lenders n owner p [] all g = inl refl
lenders n owner p (t ∷ ts) all g = lender_by (g == t.frame) n owner p t ts g refl all.0 (lenders n owner p ts all.2 g)

pub roomy : (whole : Bool) (y : Refusal) → IsForWords whole y → IsRoomy y ⊎ (whole ≡ true)
roomy whole (refusals.CountFull f w) is = inr is
roomy whole _ is = inl tt

cause_full : (y : Refusal) (g : ℕ) (s : Share) → IsCause y (CountFull g s) → IsRoomy y → ⊥
cause_full (refusals.CountFull f w) g s is room = room
cause_full _ g s is room = is

refer_full : (n : Machine) (owner g : ℕ) (p : Plain) (s : Share) → p.shares g ≡ Some s → (s.owner == owner) ≡ true → g < n.frames → nat_le n.limit s.count ≡ true → take_reference n owner g p ≡ refused (CountFull g s) p
refer_full n owner g p s was own inside full =
    let here : nat_lt g n.frames ≡ true = grind (arith, nat_tests) in
    ap (λ b. if b then take_reference_of n owner g p (p.shares g) else refused (NoFrame g) p) here
    ∙ ap (λ o. take_reference_of n owner g p o) was
    ∙ ap (λ b. if not b then refused (WrongOwner g (Some s)) p else if nat_le n.limit s.count then refused (CountFull g s) p else fine (with_share g (raised_share s) p)) own
    ∙ ap (λ b. if b then refused (CountFull g s) p else fine (with_share g (raised_share s) p)) full

-- ---- a reference
module _ (n : Machine) (owner g : ℕ) (x : ℕ → ℕ) (p : Plain) (y : Refusal) (room : IsRoomy y) (same : IsSameAnswer (Some y) (take_reference n owner g (lent x p)).refusal) where
  pub full_by : (b : Bool) (s : Share) → (lent x p).shares g ≡ Some s → (s.owner == owner) ≡ true → g < n.frames → nat_le n.limit s.count ≡ b → ⊥
  full_by true s was own inside full =
      cause_full y g s (subst (λ o. IsSameAnswer (Some y) o) (ap (λ (o : PlainOutcome). o.refusal) (refer_full n owner g (lent x p) s was own inside full)) same) room
  full_by false s was own inside full =
      subst (λ o. IsSameAnswer (Some y) o) (ap (λ (o : PlainOutcome). o.refusal) (refers n owner g (lent x p) s was own (grind (arith, nat_tests)) inside)) same

-- So the value without what is lent refuses it for the same cause; and where nothing is lent, for a count at the limit as well.
abbrev with_more : Share → ℕ → Share
with_more s e = record { owner = s.owner; allocated = s.allocated; count = s.count + e }

none_more : (s : Share) (e : ℕ) → e ≡ 0 → with_more s e ≡ s
none_more s e none = let c : s.count + e ≡ s.count = omega arith in ap (λ k. record { owner = s.owner; allocated = s.allocated; count = k }) c

module _ (n : Machine) (owner g : ℕ) (x : ℕ → ℕ) (p : Plain) (y : Refusal) (room : IsRoomy y ⊎ (x g ≡ 0)) (lends : IsLent owner x p g) where
  abbrev owned : Bool → Bool → Plain → Share → PlainOutcome
  owned own full q s = if not own then refused (WrongOwner g (Some s)) q else if full then refused (CountFull g s) q else fine (with_share g (raised_share s) q)

  other_owner : (s : Share) → p.shares g ≡ Some s → (s.owner == owner) ≡ false → IsLent owner x p g → IsCause y (WrongOwner g (Some (with_more s (x g)))) → IsCause y (WrongOwner g (Some s))
  other_owner s was own (inl none) same = subst (λ r. IsCause y (WrongOwner g (Some r))) (none_more s (x g) none) same
  other_owner s was own (inr l) same =
      let e : s ≡ l.share = (let k : Some s ≡ Some l.share = sym was ∙ l.was in cc) in
      absurd (let b : false ≡ true = sym own ∙ (ap (λ (r : Share). r.owner == owner) e ∙ l.owns) in cc)

  full_too : (s : Share) → IsRoomy y ⊎ (x g ≡ 0) → IsCause y (CountFull g (with_more s (x g))) → IsCause y (CountFull g s)
  full_too s (inl is) same = absurd (cause_full y g (with_more s (x g)) same is)
  full_too s (inr none) same = subst (λ r. IsCause y (CountFull g r)) (none_more s (x g) none) same

  not_only : (s : Share) → nat_le n.limit s.count ≡ false → nat_le n.limit (s.count + x g) ≡ true → IsRoomy y ⊎ (x g ≡ 0) → IsCause y (CountFull g (with_more s (x g))) → ⊥
  not_only s few full (inl is) same = cause_full y g (with_more s (x g)) same is
  not_only s few full (inr none) same = let c : s.count + x g ≡ s.count = omega arith in let e : false ≡ true = sym few ∙ (ap (nat_le n.limit) (sym c) ∙ full) in cc

  owned_by : (own full both : Bool) (s : Share) → p.shares g ≡ Some s → (s.owner == owner) ≡ own → nat_le n.limit s.count ≡ full → nat_le n.limit (s.count + x g) ≡ both →
      IsSameAnswer (Some y) (owned own both (lent x p) (with_more s (x g))).refusal → IsFor y p (owned own full p s)
  owned_by false full both s was own few more same = record { cause = WrongOwner g (Some s); same = other_owner s was own lends same; is = refl }
  owned_by true true true s was own few more same = record { cause = CountFull g s; same = full_too s room same; is = refl }
  owned_by true true false s was own few more same = absurd same
  owned_by true false true s was own few more same = absurd (not_only s few more room same)
  owned_by true false false s was own few more same = absurd same

  refused_by : (i : Bool) (o : Option Share) → p.shares g ≡ o → IsSameAnswer (Some y) (if i then take_reference_of n owner g (lent x p) (more_of (x g) o) else refused (NoFrame g) (lent x p)).refusal →
      IsFor y p (if i then take_reference_of n owner g p o else refused (NoFrame g) p)
  refused_by false o was same = record { cause = NoFrame g; same = same; is = refl }
  refused_by true None was same = record { cause = WrongOwner g None; same = same; is = refl }
  refused_by true (Some s) was same = owned_by (s.owner == owner) (nat_le n.limit s.count) (nat_le n.limit (s.count + x g)) s was refl refl refl same

  pub reference_refused : IsSameAnswer (Some y) (take_reference n owner g (lent x p)).refusal → IsFor y p (take_reference n owner g p)
  reference_refused same = refused_by (nat_lt g n.frames) (p.shares g) refl same

-- ---- a type, on two plain values with the same kinds
either_refusal : (e c : Bool) (a b : Plain) (o r s t : PlainOutcome) → e ≡ false → o.refusal ≡ r.refusal → (if e then s else if c then fine a else o).refusal ≡ (if e then t else if c then fine b else r).refusal
either_refusal true c a b o r s t off same = absurd cc
either_refusal false true a b o r s t off same = refl
either_refusal false false a b o r s t off same = same

module _ (n : Machine) (owner g l : ℕ) (q r : Plain) (kinds : r.kinds g ≡ q.kinds g) (off : is_dead (q.kinds g) ≡ false) where
  pub same_refusal : (take_at l n owner g q).refusal ≡ (take_at l n owner g r).refusal
  same_refusal =
      let t = level_type l in
      let k = q.kinds g in
      at_level n owner g l q (λ o. o.refusal ≡ (take_at l n owner g r).refusal)
      (λ fill. at_level n owner g l r (λ o. (take_kind fill g t q k).refusal ≡ o.refusal)
      (λ more. subst (λ j. (take_kind fill g t q k).refusal ≡ (take_kind more g t r j).refusal) (sym kinds)
      (either_refusal (is_dead k) (is_counted k && is_type k.kind t) (with_kind g (raised_kind k) q) (with_kind g (raised_kind k) r) (refused (OtherType g t k) (reference_back g q)) (refused (OtherType g t k) (reference_back g r)) _ _ off refl)))

either_back : (e c : Bool) (s : PlainOutcome) (a r : Plain) (k j : Cause) → e ≡ false → (if e then s else if c then fine a else refused k r).refusal ≡ Some j → (if e then s else if c then fine a else refused k r) ≡ refused j r
either_back true c s a r k j off is = absurd cc
either_back false true s a r k j off is = absurd cc
either_back false false s a r k j off is = let e : k ≡ j = cc in ap (λ i. refused i r) e

-- what is refused is given back
pub refused_back : (n : Machine) (owner g l : ℕ) (q : Plain) (c : Cause) → is_dead (q.kinds g) ≡ false → (take_at l n owner g q).refusal ≡ Some c → take_at l n owner g q ≡ refused c (reference_back g q)
refused_back n owner g l q c off is =
    at_level n owner g l q (λ o. o.refusal ≡ Some c → o ≡ refused c (reference_back g q))
    (λ fill. either_back (is_dead (q.kinds g)) (is_counted (q.kinds g) && is_type (q.kinds g).kind (level_type l)) _ _ (reference_back g q) (OtherType g (level_type l) (q.kinds g)) c off) is

-- a reference that is taken and given back
one_back : (x : ℕ → ℕ) (p : Plain) (g : ℕ) (s : Share) (b : Bool) (h : ℕ) → p.shares g ≡ Some s → 0 < s.count + x g → (h == g) ≡ b →
    more_of (x h) (p.shares h) ≡ (if b then fewer (more_of (x g) (at g (Some (raised_share s)) p.shares g)) else more_of (x h) (if b then Some (raised_share s) else p.shares h))
one_back x p g s true h was some is =
    let e : h ≡ g = grind (arith, nat_tests) in
    let c : ℕ = s.count + 1 + x g in
    let off : (c == 1) ≡ false = grind (arith, nat_tests) in
    let less : s.count + x g ≡ c - 1 = omega arith in
    let with : (ℕ → Share) = λ k. record { owner = s.owner; allocated = s.allocated; count = k } in
    ap (λ i. more_of (x i) (p.shares i)) e ∙ (ap (more_of (x g)) was ∙ (ap (λ k. Some (with k)) less
    ∙ (sym (ap (λ b. if b then None else Some (with (c - 1))) off) ∙ ap (λ o. fewer (more_of (x g) o)) (sym (at_here g (Some (raised_share s)) p.shares)))))
one_back x p g s false h was some is = refl

pub lent_back : (x : ℕ → ℕ) (p : Plain) (g : ℕ) (s : Share) → p.shares g ≡ Some s → 0 < s.count + x g → IsSame (reference_back g (lent x (with_share g (raised_share s) p))) (lent x p)
lent_back x p g s was some = record { shares = λ h. one_back x p g s (h == g) h was some refl; kinds = λ h. refl; cells = λ h i. refl }

plain_back : (n : Machine) (p : Plain) (g : ℕ) (s : Share) → p.shares g ≡ Some s → 0 < s.count → reference_back g (with_share g (raised_share s) p) ≡ p
plain_back n p g s was some =
    let like = share_back n p g s was some (λ h. false) (with_share g (raised_share s) p) (like_itself (λ h. false) (with_share g (raised_share s) p)) in
    ap (λ z. record { shares = z; kinds = p.kinds; cells = p.cells }) (fun_ext like.shares)

stopped_off : (g l w : ℕ) (y : Stop) (b : Bool) → is_dead (kind_fields w) ≡ b → type_stop g (level_type l) w ≡ Some y → b ≡ false
stopped_off g l w y true dead stop = absurd (let e : None ≡ Some y = sym (ap (stop_by g (level_type l) w) (dead_stands (kind_fields w) (level_type l) dead)) ∙ stop in cc)
stopped_off g l w y false dead stop = refl

module _ (n : Machine) (m : Words) (w : PortValue) (x : ℕ → ℕ) (p : Plain) (owner l f i : ℕ) (ts : List TableWork) (machine : IsMachine n) (d : Describes n m (lent x p)) (spells : Spelled n m p) (above : IsAbove l ts) (all : PlainFrames n p ts) (works : PlainTables n owner p ts) (whole : Bool) (unlent : whole ≡ true → (g : ℕ) → x g ≡ 0) (lends : (g : ℕ) → IsLent owner x p g) where
  -- the reference
  lent_refused : (g : ℕ) (y : Refusal) → refer n owner g (m (Refs g)) ≡ Some y → IsForWords whole y → Leaves w m → Unmet w n x y p (take_reference n owner g p)
  lent_refused g y is known leaves =
      record {
        refuses =
            reference_refused n owner g x p y (elim (roomy whole y known) [ inl room ↦ inl room | inr none ↦ inr (unlent none g) ]) (lends g)
            (subst (λ o. IsSameAnswer o (take_reference n owner g (lent x p)).refusal) is (same_answer n m (lent x p) owner g d));
        describes = described_leaves n w m (lent x p) leaves d;
      }

  -- the type
  held_some : (g : ℕ) (s : Share) → p.shares g ≡ Some s → 0 < s.count + x g → IsLent owner x p g → 0 < s.count
  held_some g s was some (inl none) = omega arith
  held_some g s was some (inr l) = let e : s ≡ l.share = (let k : Some s ≡ Some l.share = sym was ∙ l.was in cc) in subst (λ (r : Share). 0 < r.count) (sym e) l.some

  pub type_refused : (g : ℕ) (y : Refusal) → refer n owner g (m (Refs g)) ≡ None → type_stop g (level_type l) (m (Kind g)) ≡ Some (Refused y) → Leaves w (put g (got g m)) → Unmet w n x y p (meet n owner (take_at l n owner) f i p (demands.Typed g (level_type l)))
  unfolding with_one
  type_refused g y none stop leaves =
      let took = taking n m w x p owner l f i ts machine d spells above all works g none in
      let s = took.share in
      let one = with_share g (raised_share s) p in
      let described = got_one n m w x p owner l f i ts machine d spells above all works g none in
      let b = refused_plain n (got g m) (lent x one) l owner g y described took.inside stop in
      let off : is_dead (p.kinds g) ≡ false = ap is_dead (d.kinds g took.inside) ∙ (sober_dead (kind_at m g) ∙ stopped_off g l (m (Kind g)) (Refused y) (is_dead (kind_at m g)) refl stop) in
      let some : 0 < s.count + x g = count_some n m (lent x p) g (with_more s (x g)) d (sym (d.shares g took.inside) ∙ ap (more_of (x g)) took.was) in
      let refuses : (take_at l n owner g one).refusal ≡ Some b.cause = sym (same_refusal n owner g l (lent x one) one refl off) ∙ ap (λ (o : PlainOutcome). o.refusal) b.takes in
      record {
        refuses = record {
          cause = b.cause;
          same = b.same;
          is =
              ap (λ (o : PlainOutcome). then_by o (take_at l n owner g)) took.takes
              ∙ (refused_back n owner g l one b.cause off refuses ∙ ap (refused b.cause) (plain_back n p g s took.was (held_some g s took.was some (lends g))));
        };
        describes = described_same n (told_word w) (reference_back g (lent x one)) (lent x p) (lent_back x p g s took.was some)
            (described_leaves n w (put g (got g m)) (reference_back g (lent x one)) leaves
            (same_back n (got g m) (lent x one) g (with_more (raised_share s) (x g)) described took.inside (ap (more_of (x g)) (at_here g (Some (raised_share s)) p.shares))));
      }

  read_by : (g : ℕ) (y : Refusal) (o : Option Refusal) → refer n owner g (m (Refs g)) ≡ o → IsForWords whole y → RefersPlainly w m (Err (Refused y)) o (got g m) → Unmet w n x y p (take_reference n owner g p)
  read_by g y (Some z) is known a =
      let e : y ≡ z = (let k = a.0 in cc) in subst (λ v. Unmet w n x v p (take_reference n owner g p)) (sym e) (lent_refused g z is (subst (IsForWords whole) e known) a.1)
  read_by g y None is known a = absurd (let e = a.0 in cc)

  then_refused : (g : ℕ) (y : Refusal) → Unmet w n x y p (take_reference n owner g p) → Unmet w n x y p (meet n owner (take_at l n owner) f i p (demands.Typed g (level_type l)))
  then_refused g y a = let b = a.refuses in record { refuses = record { cause = b.cause; same = b.same; is = ap (λ o. then_by o (take_at l n owner g)) b.is }; describes = a.describes }

  types_by : (g : ℕ) (y : Refusal) → IsForWords whole y → refer n owner g (m (Refs g)) ≡ None → TypedPlainly w m g (level_type l) (Err (Refused y)) None → Unmet w n x y p (meet n owner (take_at l n owner) f i p (demands.Typed g (level_type l)))
  types_by g (refusals.Clock z) known none a = absurd known
  types_by g _ known none a = type_refused g _ none a.0 a.1

  pub asks_by : (g : ℕ) (y : Refusal) (o : Option Refusal) → refer n owner g (m (Refs g)) ≡ o → IsForWords whole y → TypedPlainly w m g (level_type l) (Err (Refused y)) o → Unmet w n x y p (meet n owner (take_at l n owner) f i p (demands.Typed g (level_type l)))
  asks_by g y (Some z) is known a =
      let e : y ≡ z = (let k = a.0 in cc) in
      then_refused g y (subst (λ v. Unmet w n x v p (take_reference n owner g p)) (sym e) (lent_refused g z is (subst (IsForWords whole) e known) a.1))
  asks_by g y None is known a = types_by g y known is a

  pub unmet : (e : Demand) (y : Refusal) → f < n.frames → i < 512 → ((g : ℕ) (t : PageType) → e ≡ demands.Typed g t → t ≡ level_type l) → IsForWords whole y → EntersPlainly n w m f i owner (Err (Refused y)) e →
      Unmet w n x y p (meet n owner (take_at l n owner) f i p e)
  unmet demands.Nothing y inside few asks known a = absurd (let e = a.0 in cc)
  unmet demands.Bad y inside few asks known a =
      let e : y ≡ refusals.Reserved f i (m (Cell f i)) = (let k = a.0 in cc) in
      subst (λ v. Unmet w n x v p (meet n owner (take_at l n owner) f i p demands.Bad)) (sym e)
      (record { refuses = record { cause = Reserved f i (p.cells f i); same = (refl, refl, sym (d.cells f i inside few)); is = refl }; describes = described_leaves n w m (lent x p) a.1 d })
  unmet (demands.Read g) y inside few asks known a = read_by g y (refer n owner g (m (Refs g))) refl known a
  unmet (demands.Typed g t) y inside few asks known a =
      subst (λ u. Unmet w n x y p (meet n owner (take_at l n owner) f i p (demands.Typed g u))) (sym (asks g t refl))
      (asks_by g y (refer n owner g (m (Refs g))) refl known (subst (λ u. TypedPlainly w m g u (Err (Refused y)) (refer n owner g (m (Refs g)))) (asks g t refl) a))

  -- no entry pauses for the gate
  due_read : (g : ℕ) (o : Option Refusal) → RefersPlainly w m (Err (Paused pauses.Due)) o (got g m) → ⊥
  due_read g (Some z) a = let e = a.0 in cc
  due_read g None a = let e = a.0 in cc

  due_typed : (g : ℕ) (t : PageType) (o : Option Refusal) → TypedPlainly w m g t (Err (Paused pauses.Due)) o → ⊥
  due_typed g t (Some z) a = let e = a.0 in cc
  due_typed g t None a = only_busy g (got g m (Kind g)) t pauses.Due a.0

  pub not_due : (e : Demand) → EntersPlainly n w m f i owner (Err (Paused pauses.Due)) e → ⊥
  not_due demands.Nothing a = let e = a.0 in cc
  not_due demands.Bad a = let e = a.0 in cc
  not_due (demands.Read g) a = due_read g (refer n owner g (m (Refs g))) a
  not_due (demands.Typed g t) a = due_typed g t (refer n owner g (m (Refs g))) a
