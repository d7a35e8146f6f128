-- Steps that leave known zeros of the own words alone: waits for flushes among them; and so a write into ordinary memory.
use Rattle.std.proofs.Common.{◌≡◌, ◌≢◌, ◌⊎◌, ℕ, ◌==◌, ◌||◌, Bool, true, false, List, [], ◌∷◌, Option, None, Result, Ok, Err, refl, sym, ap, ◌∙◌, subst, arith, inl, inr}
use Rattle.std.proofs.lemmas.Bool.{cases_order, eq-eqb, eqb-true}
use Rattle.xp_words.specs.KindWords.{kind_fields}
use Rattle.xp_words.specs.Machine.{Machine}
use Rattle.xp_words.specs.declared.kind.PageType.{PageType}
use Rattle.xp_words.specs.declared.place.Place.{Place}
use Rattle.xp_words.specs.declared.place.Place.TheVariants.{Clock, Pages, Life, Vcpu, Refs, Kind, M2p, Cell, Map, Priv}
use Rattle.xp_words.specs.declared.reply.Refusal.{Refusal}
use Rattle.xp_board.specs.declared.step.Act.{Act}
use Rattle.xp_board.specs.declared.step.Act.TheVariants.{Load, Cas, Store, Add, Max}
use Rattle.xp_board.specs.declared.step.Mark.{Mark}
use Rattle.xp_board.specs.declared.step.StepKind.{StepKind}
use Rattle.xp_board.specs.Acts.{left_by}
use Rattle.xp_board.specs.Lists.{EachOf}
use Rattle.xp_board.specs.Told.{Post, PortValue}
use Rattle.xp_board.proofs.HandLists.{EachOf-map}
use Rattle.step_maker.specs.Moves.{Moment, Moves, Ran}
use Rattle.step_maker.specs.Reasons.{OfOwner, Those, Whose}
use Rattle.step_maker.specs.Visits.{Visit, visits, Does, Nothing, Only, Then, Where}
use Rattle.step_maker.proofs.Piecing.{each_append}
use Rattle.flush_words.specs.Flushing as flushing
use Rattle.flush_words.specs.Flushing.{FlushedBy}
use Rattle.flush_waits.specs.Listing as waits
use Rattle.flush_waits.specs.Listing.{LooksAt, Slow, WaitedFor, WaitsInOrder, WeighsBy}
use Rattle.frame_types.specs.Found.{EndsBy, GoesBy, TakesBy, TypeBy, WaitsOf, is_kept_by}
use Rattle.frame_types.specs.Plain.{is_own, waits_by}
use Rattle.frame_types.specs.declared.standing.Standing.{Standing}
use Rattle.frame_types.specs.declared.standing.Standing.TheVariants as stands
use Rattle.frame_types.specs.Standing.{standing_of}
use Rattle.frame_types.specs.declared.taking.Taken.TheVariants.{Counted}
use Rattle.frame_words.specs.Freeing.{PutBy}
use Rattle.vcpu_turn.proofs.Clearing.{Apart, Known, elsewhere, known_found, known_left, known_on, puts}
use Rattle.vcpu_turn.proofs.Silent.{IsClear}

-- ---- one step: elsewhere than at the words of a vCPU, or at those of its flushes, or a load
abbrev spares_at : Place → Act → Bool
spares_at (Vcpu s k) Load = true
spares_at (Vcpu s k) a = (k == 4) || (k == 5)
spares_at p a = true

abbrev Spared : Visit → Type 0
Spared x = spares_at x.place x.act ≡ true

module _ (v w : PortValue) (k : ℕ) (not_asked : k ≢ 4) (not_flushed : k ≢ 5) (runs : Known 6 v) (known : Known k v) where
  same_number : (s n : ℕ) → (Vcpu s n ≡ Vcpu v.post.vcpu k) ⊎ (Vcpu s n ≢ Vcpu v.post.vcpu k)
  same_number s n = elim (cases_order s v.post.vcpu) [
    | inl at ↦ elim (cases_order n k) [
      | inl of ↦ inl (rw (at, of) refl)
      | inr (inl below) ↦ inr (λ e. let is : n ≡ k = cc in omega (arith, is, below))
      | inr (inr above) ↦ inr (λ e. let is : n ≡ k = cc in omega (arith, is, above))
    ]
    | inr (inl below) ↦ inr (λ e. let is : s ≡ v.post.vcpu = cc in omega (arith, is, below))
    | inr (inr above) ↦ inr (λ e. let is : s ≡ v.post.vcpu = cc in omega (arith, is, above))
  ]

  at_vcpu : (s n : ℕ) (a : Act) (kind : StepKind) (mark : Option Mark) (found : ℕ) → (a ≡ Load) ⊎ (((n == 4) || (n == 5)) ≡ true) → Moves v w (Vcpu s n) a kind mark found → Known k w
  unfolding left_by
  at_vcpu s n a kind mark found may m = elim (same_number s n) [
    | inl at ↦ elim may [
      | inl load ↦ known_left v w (Vcpu s n) a kind mark found m k at
          (ap (λ (x : Act). left_by x found) load ∙ known_found v w k Load kind mark found (subst (λ (x : Act). Moves v w (Vcpu v.post.vcpu k) x kind mark found) load (subst (λ (p : Place). Moves v w p a kind mark found) at m)) not_asked not_flushed runs known)
      | inr flushes ↦ absurd (no_flush (subst (λ (i : ℕ). ((i == 4) || (i == 5)) ≡ true) (number at) flushes))
    ]
    | inr off ↦ known_on v w (Vcpu s n) a kind mark found m k off known
  ]
    where
      number : Vcpu s n ≡ Vcpu v.post.vcpu k → n ≡ k
      number e = cc

      no_flush : ((k == 4) || (k == 5)) ≡ true → ⊥
      no_flush is = by (k == 4) (k == 5) refl refl is
        where
          by : (four five : Bool) → (k == 4) ≡ four → (k == 5) ≡ five → (four || five) ≡ true → ⊥
          by true five a b c = not_asked (eqb-true k 4 a)
          by false true a b c = not_flushed (eqb-true k 5 b)
          by false false a b c = cc

  known_spared : (p : Place) (a : Act) (kind : StepKind) (mark : Option Mark) (found : ℕ) → spares_at p a ≡ true → Moves v w p a kind mark found → Known k w
  known_spared (Vcpu s n) Load kind mark found may m = at_vcpu s n Load kind mark found (inl refl) m
  known_spared (Vcpu s n) (Cas x y) kind mark found may m = at_vcpu s n (Cas x y) kind mark found (inr may) m
  known_spared (Vcpu s n) (Store x) kind mark found may m = at_vcpu s n (Store x) kind mark found (inr may) m
  known_spared (Vcpu s n) (Add x) kind mark found may m = at_vcpu s n (Add x) kind mark found (inr may) m
  known_spared (Vcpu s n) (Max x) kind mark found may m = at_vcpu s n (Max x) kind mark found (inr may) m
  known_spared Clock a kind mark found may m = known_on v w Clock a kind mark found m k (λ e. cc) known
  known_spared (Pages d) a kind mark found may m = known_on v w (Pages d) a kind mark found m k (λ e. cc) known
  known_spared (Life d) a kind mark found may m = known_on v w (Life d) a kind mark found m k (λ e. cc) known
  known_spared (Refs f) a kind mark found may m = known_on v w (Refs f) a kind mark found m k (λ e. cc) known
  known_spared (Kind f) a kind mark found may m = known_on v w (Kind f) a kind mark found m k (λ e. cc) known
  known_spared (M2p f) a kind mark found may m = known_on v w (M2p f) a kind mark found m k (λ e. cc) known
  known_spared (Cell f i) a kind mark found may m = known_on v w (Cell f i) a kind mark found m k (λ e. cc) known
  known_spared (Map j) a kind mark found may m = known_on v w (Map j) a kind mark found m k (λ e. cc) known
  known_spared (Priv d) a kind mark found may m = known_on v w (Priv d) a kind mark found m k (λ e. cc) known

not_at : (a b : ℕ) → (a == b) ≡ false → a ≢ b
not_at a b off e = let both = sym (eqb-same a b e) ∙ off in cc
  where
    eqb-same : (x y : ℕ) → x ≡ y → (x == y) ≡ true
    eqb-same x y is = eq-eqb x y is

pub clear_moves : (v w : PortValue) (p : Place) (a : Act) (kind : StepKind) (mark : Option Mark) (found : ℕ) → spares_at p a ≡ true → Moves v w p a kind mark found → IsClear v → IsClear w
clear_moves v w p a kind mark found may m clear =
    record {
      first = known_spared v w 2 (not_at 2 4 refl) (not_at 2 5 refl) clear.runs clear.first p a kind mark found may m;
      second = known_spared v w 3 (not_at 3 4 refl) (not_at 3 5 refl) clear.runs clear.second p a kind mark found may m;
      runs = known_spared v w 6 (not_at 6 4 refl) (not_at 6 5 refl) clear.runs clear.runs p a kind mark found may m;
    }

-- ---- lists of visits
ran_clear : (v w : PortValue) (ms : List Moment) → Ran v ms w → EachOf Spared (visits ms) → IsClear v → IsClear w
unfolding EachOf
ran_clear v w [] ran off clear = subst IsClear (sym ran) clear
ran_clear v w (m ∷ ms) ran off clear = clear_moves ran.0 w m.place m.act m.kind m.mark m.found off.0 ran.2.moves (ran_clear v ran.0 ms ran.1 off.1 clear)

abbrev Spares : (List Visit → Type 0) → Type 0
Spares P = (vs : List Visit) → P vs → EachOf Spared vs

pub clear_does : (v w : PortValue) (P : List Visit → Type 0) → Spares P → Does v w P → IsClear v → IsClear w
unfolding Does
clear_does v w P off does clear = ran_clear v w does.0 does.1 (off (visits does.0) does.2) clear

spared_apart : (x : Visit) → Apart x → Spared x
spared_apart x off = by x.place x.act off
  where
    by : (p : Place) (a : Act) → elsewhere p ≡ true → spares_at p a ≡ true
    by (Vcpu s k) a is = absurd (cc)
    by Clock a is = refl
    by (Pages d) a is = refl
    by (Life d) a is = refl
    by (Refs f) a is = refl
    by (Kind f) a is = refl
    by (M2p f) a is = refl
    by (Cell f i) a is = refl
    by (Map k) a is = refl
    by (Priv d) a is = refl

-- what keeps away from all words of vCPUs
pub aparts : (P : List Visit → Type 0) → ((vs : List Visit) → P vs → EachOf Apart vs) → Spares P
aparts P off vs is = EachOf-map Apart Spared vs spared_apart (off vs is)

nothing : Spares Nothing
unfolding EachOf
nothing vs is = subst (EachOf Spared) (sym is) tt

pub one : (x : Visit) → Spared x → Spares (Only x)
unfolding EachOf
one x off vs is = subst (EachOf Spared) (sym is) (off, tt)

pub two : (P Q : List Visit → Type 0) → Spares P → Spares Q → Spares (Then P Q)
two P Q a b vs t = subst (EachOf Spared) (sym t.list) (each_append Spared t.before t.after (a t.before t.first) (b t.after t.next))

maybe : (b : Bool) (P : List Visit → Type 0) → Spares P → Spares (Where b P)
maybe true P a = a
maybe false P a = nothing

-- ---- a wait for flushes
weighs : (n : Machine) (whose : Whose) (u : ℕ) (reaches : Bool) → Spares (WeighsBy n whose u reaches)
weighs n (OfOwner owner) u reaches vs (inl mine) = nothing vs mine.2
weighs n (OfOwner owner) u reaches vs (inr look) = one _ refl vs look.1.2
weighs n (Those means) u reaches vs named = nothing vs named.1

flushes : (s : ℕ) (answer : Result (Unit {0}) Refusal) → Spares (FlushedBy s answer)
unfolding EachOf
flushes s _ _ flushing.FlushedBy.none = (refl, tt)
flushes s _ _ (flushing.FlushedBy.once clock found to before some left) = (refl, (refl, (refl, tt)))

module _ (q : Post) (whose : Whose) (stamp : ℕ) where
  looks : (u : ℕ) (answer : Result (Option ℕ) Refusal) → (vs : List Visit) → LooksAt q whose stamp u vs answer → EachOf Spared vs
  looks u _ vs (waits.LooksAt.unmeant means is off none) = nothing vs none
  looks u _ vs (waits.LooksAt.idle x other runs saw) = one _ refl vs saw
  looks u _ vs (waits.LooksAt.late y other past saw) = two _ _ (one _ refl) (one _ refl) vs saw
  looks u _ vs (waits.LooksAt.barred y other most saw) = two _ _ (one _ refl) (two _ _ (one _ refl) (weighs q.machine whose u false)) vs saw
  looks u _ vs (waits.LooksAt.behind y z other most saw) = two _ _ (one _ refl) (two _ _ (one _ refl) (two _ _ (weighs q.machine whose u true) (one _ refl))) vs saw
  looks u _ vs (waits.LooksAt.own_late y own past saw) = one _ refl vs saw
  looks u _ vs (waits.LooksAt.own_flushed y own most saw) = two _ _ (one _ refl) (flushes u (Ok tt)) vs saw
  looks u _ vs (waits.LooksAt.own_spent y r own most saw) = two _ _ (one _ refl) (flushes u (Err r)) vs saw

  waits_spare : (n : ℕ) (answer : Result (Option Slow) Refusal) → (vs : List Visit) → WaitsInOrder q whose stamp vs n answer → EachOf Spared vs
  waits_spare _ _ _ (waits.WaitsInOrder.none vs is) = nothing vs is
  waits_spare _ _ _ (waits.WaitsInOrder.more u first standing before now vs earlier looked is) =
      subst (EachOf Spared) (sym is) (each_append Spared before now (waits_spare u (Ok first) before earlier) (looks u (Ok standing) now looked))
  waits_spare _ _ _ (waits.WaitsInOrder.spent u first r before now vs earlier looked is) =
      subst (EachOf Spared) (sym is) (each_append Spared before now (waits_spare u (Ok first) before earlier) (looks u (Err r) now looked))

  waited : Spares (WaitedFor q whose stamp (Ok tt))
  waited vs w = waits_spare _ (Ok None) vs w

-- ---- ordinary memory is taken
waits_of : (q : Post) (owner : ℕ) (marked : Bool) (stamp : ℕ) → Spares (WaitsOf q owner marked stamp Counted)
waits_of q owner true stamp vs w = waited q (OfOwner owner) stamp vs w
waits_of q owner false stamp vs w = nothing vs w

ends : (f : ℕ) (want : PageType) (marked own : Bool) → Spares (EndsBy f want marked own Counted)
ends f want marked own vs h = one _ refl vs h.1

goes : (q : Post) (f owner : ℕ) (want : PageType) (marked : Bool) (stamp : ℕ) (own : Bool) → Spares (GoesBy q f owner want marked stamp own Counted)
goes q f owner want marked stamp own vs h = two _ _ (waits_of q owner marked stamp) (ends f want marked own) vs h

work : (q : Post) (f owner : ℕ) (want : PageType) (marked : Bool) (stamp : ℕ) (own kept : Bool) → Spares (λ vs. Then (Where kept (PutBy f)) (λ gs. GoesBy q f owner want marked stamp own Counted gs) vs)
work q f owner want marked stamp own kept vs h = two _ _ (maybe kept (PutBy f) (aparts (PutBy f) (puts f))) (goes q f owner want marked stamp own) vs h

-- the frame comes into work, in that way
worked : (q : Post) (f owner : ℕ) (want : PageType) (x : ℕ) (s : Standing) →
    Spares (λ vs. Then (Where (is_kept_by (kind_fields x) s) (PutBy f)) (λ gs. GoesBy q f owner want (waits_by (kind_fields x) want s) (kind_fields x).number (is_own (kind_fields x) s) Counted gs) vs)
worked q f owner want x s = work q f owner want (waits_by (kind_fields x) want s) (kind_fields x).number (is_own (kind_fields x) s) (is_kept_by (kind_fields x) s)

takes_by : (q : Post) (f owner : ℕ) (want : PageType) (x : ℕ) (s : Standing) → Spares (TakesBy q f owner want x s Counted)
takes_by q f owner want x stands.Counted vs h = one _ refl vs h
takes_by q f owner want x stands.Dead vs h = two _ _ (one _ refl) (worked q f owner want x stands.Dead) vs h
takes_by q f owner want x stands.Partial vs h = two _ _ (one _ refl) (worked q f owner want x stands.Partial) vs h
takes_by q f owner want x stands.Busy vs h = two _ _ (one _ refl) (worked q f owner want x stands.Busy) vs h
takes_by q f owner want x stands.Other vs h = two _ _ (one _ refl) (worked q f owner want x stands.Other) vs h

pub counts_type : (q : Post) (f owner : ℕ) (want : PageType) → Spares (TypeBy q f owner want (Ok Counted))
counts_type q f owner want vs h = two _ _ (one _ refl) (takes_by q f owner want h.word (standing_of (kind_fields h.word) want)) vs h.steps
