-- References that are taken and given back, locks, and machine-to-physical words are determined by the words that are found.
use Rattle.std.proofs.Common.{◌≡◌, ◌≢◌, ℕ, ◌+◌, ◌/◌, ◌<◌, ◌≤◌, ◌==◌, ◌&&◌, ◌||◌, not, nat_lt, if◌then◌else◌, Bool, true, false, List, [], ◌∷◌, ◌++◌, Option, Some, None, Result, Ok, Err, IsTrue, refl, sym, ap, ◌∙◌, subst, inl, inr, arith}
use Rattle.std.proofs.lemmas.Bool.Decides.{nat_tests}
use Rattle.xp_words.specs.Machine.{Machine}
use Rattle.xp_words.specs.Places.{number, sizes_of}
use Rattle.xp_words.specs.KindWords.{kind_fields, kind_write}
use Rattle.xp_words.specs.PageTypes.{is_table}
use Rattle.xp_words.specs.RefWords.{ref_read, ref_write}
use Rattle.xp_words.specs.declared.kind.KindWord.{KindWord}
use Rattle.xp_words.specs.declared.place.Place.TheVariants.{Clock, Kind, M2p, Map, Pages, Refs}
use Rattle.xp_words.specs.declared.refs.RefWord.{RefWord}
use Rattle.xp_words.specs.declared.refs.RefWord.TheVariants.{Free, Owned}
use Rattle.xp_words.specs.declared.reply.Pause.TheVariants.{Busy, Lost}
use Rattle.xp_words.specs.declared.reply.Refusal.{Refusal}
use Rattle.xp_words.specs.declared.reply.Refusal.TheVariants.{NoFrame}
use Rattle.xp_words.specs.declared.reply.Stop.{Stop}
use Rattle.xp_words.specs.declared.reply.Stop.TheVariants.{Paused, Refused}
use Rattle.xp_words.proofs.Shared.{lt_false as above_all}
use Rattle.xp_board.specs.declared.step.Act.TheVariants.{Add, Cas, Load, Store}
use Rattle.xp_board.specs.HintSteps.{map_bit}
use Rattle.xp_board.specs.KindSteps.{locked_kind}
use Rattle.xp_board.specs.Readings.{ref_count}
use Rattle.xp_board.specs.RefSteps.{one_down}
use Rattle.step_maker.specs.Visits.{Visit, Only, Then, visit}
use Rattle.partial_state.specs.Levels.{level_type}
use Rattle.frame_words.specs.Freeing.{FreesBy, LastOf, PutBy, freeing, lowers_refs}
use Rattle.frame_words.specs.Plain.{one_more, refer}
use Rattle.frame_words.specs.Refs.{GetsBy, UnreferredBy, outside, raises_refs, refused, saw_refs}
use Rattle.entry_locks.specs.Found.{LocksBy}
use Rattle.entry_locks.specs.Locks.{is_lockable, is_worked_on}
use Rattle.entry_locks.specs.declared.locking.Locked.{Locked}
use Rattle.entry_locks.specs.declared.locking.Locked.TheVariants.{Other, Table}
use Rattle.m2p_map.specs.Found.{MapsBy}
use Rattle.determined_laws.specs.Forks.{Agree, AgreeLock, Forks, Tie}
use Rattle.determined_laws.proofs.Ties.{tie_map, tie_lists, forks_newer, tie_one, tie_then}

agree_err : {A : Type 0} (a b : Result A Stop) (e f : Stop) → a ≡ Err e → b ≡ Err f → e ≡ f → Agree a b
agree_err a b e f x y z = subst (λ k. Agree k b) (sym x) (subst (λ k. Agree (Err e) k) (sym y) z)

-- ---- a reference is taken
abbrev IsDone : {A : Type 0} → Result A Stop → Type 0
IsDone (Ok a) = Unit {0}
IsDone (Err e) = ⊥

agree_done : {A : Type 0} (a b : Result A Stop) → IsDone a → IsDone b → Agree a b
agree_done (Ok a) (Ok b) x y = tt
agree_done (Ok a) (Err e) x y = absurd y
agree_done (Err e) b x y = absurd x

two : (f x y : ℕ) (vs : List Visit) → Then (Only (saw_refs f x)) (Only (raises_refs f x y)) vs → vs ≡ (raises_refs f x y ∷ []) ++ (saw_refs f x ∷ [])
two f x y vs t = t.list ∙ (ap (λ z. t.after ++ z) t.first ∙ ap (λ z. z ++ (saw_refs f x ∷ [])) t.next)

if_off : (b : Bool) (x : Option Refusal) (r : Refusal) → b ≡ false → (if b then x else Some r) ≡ None → ⊥
if_off true x r e h = cc
if_off false x r e h = cc

far_refused : (n : Machine) (f owner x : ℕ) → n.frames ≤ f → refer n owner f x ≡ None → ⊥
far_refused n f owner x far e = if_off (nat_lt f n.frames) _ (NoFrame f) (above_all f n.frames far) e

module _ {A : Type 0} (n : Machine) (f owner : ℕ) where
  data Raised (x y : ℕ) (a : Result A Stop) : Type 0 where
    met : y ≡ x → IsDone a → Raised x y a
    lost : y ≢ x → a ≡ Err (Paused (Lost (number (sizes_of n) (Refs f)) x y)) → Raised x y a

  data GotRest (x : ℕ) (a : Result A Stop) : List Visit → Type 0 where
    barred : (r : Refusal) → f < n.frames → refer n owner f x ≡ Some r → a ≡ Err (Refused r) → GotRest x a []
    raised : (y : ℕ) → refer n owner f x ≡ None → Raised x y a → GotRest x a (raises_refs f x y ∷ [])

  data Got (a : Result A Stop) : List Visit → Type 0 where
    out : n.frames ≤ f → a ≡ Err (Refused (NoFrame f)) → Got a []
    seen : (x : ℕ) (rest : List Visit) → GotRest x a rest → Got a (rest ++ (saw_refs f x ∷ []))

  moved : (a : Result A Stop) (us vs : List Visit) → us ≡ vs → Got a vs → Got a us
  moved a us vs e g = subst (λ z. Got a z) (sym e) g

  unreferred : (r : Refusal) (vs : List Visit) → UnreferredBy n f owner r vs → Got (Err (Refused r)) vs
  unreferred r vs (outside far is nothing) = moved _ vs [] nothing (out far (ap (λ z. Err (Refused z)) is))
  unreferred r vs (refused x near is saw) = moved _ vs ([] ++ (saw_refs f x ∷ [])) saw (seen x [] (barred r near is refl))

  got : (a : Result A Stop) (vs : List Visit) → GetsBy n f owner a vs → Got a vs
  got (Ok g) vs p = moved _ vs _ (two f p.0 p.0 vs p.2) (seen p.0 (raises_refs f p.0 p.0 ∷ []) (raised p.0 p.1 (met refl tt)))
  got (Err (Refused r)) vs p = unreferred r vs p
  got (Err (Paused (Lost place e x))) vs p =
      moved _ vs _ (two f e x vs p.3) (seen e (raises_refs f e x ∷ []) (raised x p.1 (lost p.2 (ap (λ z. Err (Paused (Lost z e x))) p.0))))
  got (Err (Paused x)) vs p = absurd p

  raised_agree : (x y z : ℕ) (a b : Result A Stop) → y ≡ z → Raised x y a → Raised x z b → Agree a b
  raised_agree x y z a b s (met e d) (met g h) = agree_done a b d h
  raised_agree x y z a b s (met e d) (lost g h) = absurd (g (sym s ∙ e))
  raised_agree x y z a b s (lost e d) (met g h) = absurd (e (s ∙ g))
  raised_agree x y z a b s (lost e d) (lost g h) = agree_err a b _ _ d h (ap (λ k. Paused (Lost (number (sizes_of n) (Refs f)) x k)) s)

  rest_tie : (x : ℕ) (a b : Result A Stop) (us vs : List Visit) → GotRest x a us → GotRest x b vs → Tie us vs (Agree a b)
  rest_tie x a b _ _ (barred r near is e) (barred s near' is' g) = inr (refl, agree_err a b _ _ e g (ap (λ z. Refused z) (let t = sym is ∙ is' in some_same r s t)))
    where
      some_same : (r s : Refusal) → ◌≡◌ {A = Option Refusal} (Some r) (Some s) → r ≡ s
      some_same r s e = cc
  rest_tie x a b _ _ (barred r near is e) (raised y free h) = absurd (let t = sym is ∙ free in cc)
  rest_tie x a b _ _ (raised y free h) (barred r near is e) = absurd (let t = sym is ∙ free in cc)
  rest_tie x a b _ _ (raised y free h) (raised z also g) = tie_map _ _ _ _ (tie_one _ (Refs f) (Cas x (one_more x (ref_read x))) None y z) (λ s. raised_agree x y z a b s h g)

  got_tie : (a b : Result A Stop) (us vs : List Visit) → Got a us → Got b vs → Tie us vs (Agree a b)
  got_tie a b _ _ (out far e) (out far' g) = inr (refl, agree_err a b _ _ e g refl)
  got_tie a b _ _ (out far e) (seen x _ (barred r near is g)) = absurd (omega (arith, far, near))
  got_tie a b _ _ (out far e) (seen x _ (raised y free h)) = absurd (far_refused n f owner x far free)
  got_tie a b _ _ (seen x _ (barred r near is g)) (out far e) = absurd (omega (arith, far, near))
  got_tie a b _ _ (seen x _ (raised y free h)) (out far e) = absurd (far_refused n f owner x far free)
  got_tie a b _ _ (seen x rest g) (seen y more h) =
      tie_then (saw_refs f x ∷ []) (saw_refs f y ∷ []) rest more (x ≡ y) (Agree a b) (tie_one _ (Refs f) Load None x y) (λ e s. rest_tie y a b rest more (subst (λ z. GotRest z a rest) s g) h)

  pub gets_tie : (a b : Result A Stop) (us vs : List Visit) → GetsBy n f owner a us → GetsBy n f owner b vs → Tie us vs (Agree a b)
  gets_tie a b us vs p q = got_tie a b us vs (got a us p) (got b vs q)

-- ---- a reference is given back
owned_same : (o p : ℕ) (a b : Bool) → ◌≡◌ {A = Option RefWord} (Some (Owned o a 1)) (Some (Owned p b 1)) → o ≡ p
owned_same o p a b e = cc

last_same : (w : ℕ) (a b : Option ℕ) → LastOf w a → LastOf w b → a ≡ b
unfolding ref_count
last_same w (Some o) (Some p) x y = ap (λ z. Some z) (owned_same o p x.0 y.0 (sym x.1 ∙ y.1))
last_same w (Some o) None x y = absurd (y (let e = x.1 in rw e refl))
last_same w None (Some p) x y = absurd (x (let e = y.1 in rw e refl))
last_same w None None x y = refl

module _ (f owner : ℕ) where
  pages_tie : (z k : ℕ) → Tie (visit (Pages owner) (Add one_down) z ∷ []) (visit (Pages owner) (Add one_down) k ∷ []) (Unit {0})
  pages_tie z k = tie_map _ _ _ _ (tie_one _ (Pages owner) (Add one_down) None z k) (λ e. tt)

  store_tie : (clock y z l k : ℕ) →
      Tie (visit (Pages owner) (Add one_down) z ∷ (visit (Refs f) (Store (ref_write (Free clock))) y ∷ [])) (visit (Pages owner) (Add one_down) k ∷ (visit (Refs f) (Store (ref_write (Free clock))) l ∷ [])) (Unit {0})
  store_tie clock y z l k =
      tie_then (visit (Refs f) (Store (ref_write (Free clock))) y ∷ []) (visit (Refs f) (Store (ref_write (Free clock))) l ∷ []) (visit (Pages owner) (Add one_down) z ∷ []) (visit (Pages owner) (Add one_down) k ∷ []) (y ≡ l) _
      (tie_one _ (Refs f) (Store (ref_write (Free clock))) None y l) (λ e s. pages_tie z k)

  bit_tie : (clock b y z d l k : ℕ) → Tie (freeing f owner clock b y z) (freeing f owner clock d l k) (Unit {0})
  bit_tie clock b y z d l k =
      tie_then (visit (Map (f / 64)) (Add (map_bit f)) b ∷ (visit Clock Load clock ∷ [])) (visit (Map (f / 64)) (Add (map_bit f)) d ∷ (visit Clock Load clock ∷ []))
      (visit (Pages owner) (Add one_down) z ∷ (visit (Refs f) (Store (ref_write (Free clock))) y ∷ [])) (visit (Pages owner) (Add one_down) k ∷ (visit (Refs f) (Store (ref_write (Free clock))) l ∷ [])) (b ≡ d) _
      (tie_then (visit Clock Load clock ∷ []) (visit Clock Load clock ∷ []) (visit (Map (f / 64)) (Add (map_bit f)) b ∷ []) (visit (Map (f / 64)) (Add (map_bit f)) d ∷ []) (Unit {0}) (b ≡ d) (inr (refl, tt)) (λ e s. tie_one _ (Map (f / 64)) (Add (map_bit f)) None b d))
      (λ e s. store_tie clock y z l k)

  free_tie : (c b y z e d l k : ℕ) → Tie (freeing f owner c b y z) (freeing f owner e d l k) (Unit {0})
  free_tie c b y z e d l k = by (tie_one _ Clock Load None c e)
    where
      by : Tie (visit Clock Load c ∷ []) (visit Clock Load e ∷ []) (c ≡ e) → Tie (freeing f owner c b y z) (freeing f owner e d l k) (Unit {0})
      by (inl t) =
          inl (forks_newer (visit Clock Load c ∷ []) (visit Clock Load e ∷ []) (visit (Pages owner) (Add one_down) z ∷ (visit (Refs f) (Store (ref_write (Free c))) y ∷ (visit (Map (f / 64)) (Add (map_bit f)) b ∷ [])))
          (visit (Pages owner) (Add one_down) k ∷ (visit (Refs f) (Store (ref_write (Free e))) l ∷ (visit (Map (f / 64)) (Add (map_bit f)) d ∷ []))) t)
      by (inr s) = subst (λ g. Tie (freeing f owner c b y z) (freeing f owner g d l k) (Unit {0})) s.1 (bit_tie c b y z d l k)

frees_tie : (f : ℕ) (o : Option ℕ) (us vs : List Visit) → FreesBy f o us → FreesBy f o vs → Tie us vs (Unit {0})
frees_tie f (Some owner) us vs p q = tie_lists us vs _ _ _ p.4 q.4 (free_tie f owner p.0 p.1 p.2 p.3 q.0 q.1 q.2 q.3)
frees_tie f None us vs p q = inr (p ∙ sym q, tt)

pub put_tie : (f : ℕ) (us vs : List Visit) → PutBy f us → PutBy f vs → Tie us vs (Unit {0})
put_tie f us vs p q =
    let s = p.steps in
    let t = q.steps in
    tie_lists us vs _ _ _ (s.list ∙ ap (λ z. s.after ++ z) s.first) (t.list ∙ ap (λ z. t.after ++ z) t.first)
    (tie_then (lowers_refs f p.word ∷ []) (lowers_refs f q.word ∷ []) s.after t.after (p.word ≡ q.word) (Unit {0}) (tie_one _ (Refs f) (Add one_down) None p.word q.word)
    (λ e same. let one = last_same q.word p.last q.last (subst (λ z. LastOf z p.last) same p.of) q.of in frees_tie f q.last s.after t.after (subst (λ z. FreesBy f z s.after) one s.next) t.next))

-- ---- a machine-to-physical word
module _ (n : Machine) (f owner gpfn : ℕ) where
  got_first : (a : Result (Unit {0}) Stop) (e : Stop) (us vs : List Visit) → GetsBy {A = ℕ} n f owner (Ok f) us → GetsBy {A = ℕ} n f owner (Err e) vs → (qs : List Visit) → Forks (qs ++ us) vs
  got_first a e us vs p q qs = by (gets_tie {A = ℕ} n f owner (Ok f) (Err e) us vs p q)
    where
      by : Tie us vs ⊥ → Forks (qs ++ us) vs
      by (inl t) = forks_newer us vs qs [] t
      by (inr s) = absurd s.1

  got_second : (a : Result (Unit {0}) Stop) (e : Stop) (us vs : List Visit) → GetsBy {A = ℕ} n f owner (Err e) us → GetsBy {A = ℕ} n f owner (Ok f) vs → (qs : List Visit) → Forks us (qs ++ vs)
  got_second a e us vs p q qs = by (gets_tie {A = ℕ} n f owner (Err e) (Ok f) us vs p q)
    where
      by : Tie us vs ⊥ → Forks us (qs ++ vs)
      by (inl t) = forks_newer us vs [] qs t
      by (inr s) = absurd s.1

  pub maps_tie : (a b : Result (Unit {0}) Stop) (us vs : List Visit) → MapsBy n f owner gpfn a us → MapsBy n f owner gpfn b vs → Tie us vs (Agree a b)
  maps_tie (Ok a) (Ok b) us vs p q =
      let s = p.next in
      let t = q.next in
      tie_lists us vs _ _ _ p.list q.list
      (tie_then p.before q.before p.after q.after (Agree {A = ℕ} (Ok f) (Ok f)) (Unit {0}) (gets_tie {A = ℕ} n f owner (Ok f) (Ok f) p.before q.before p.first q.first)
      (λ e g. tie_lists p.after q.after _ _ _ s.list t.list
      (tie_then s.before t.before s.after t.after (Unit {0}) (Unit {0})
      (tie_lists s.before t.before _ _ _ s.first.1 t.first.1 (tie_map _ _ _ _ (tie_one _ (M2p f) (Store gpfn) None s.first.0 t.first.0) (λ z. tt))) (λ z k. put_tie f s.after t.after s.next t.next))))
  maps_tie (Ok a) (Err e) us vs p q = inl (subst (λ z. Forks z vs) (sym p.list) (got_first (Ok a) e p.before vs p.first q p.after))
  maps_tie (Err e) (Ok b) us vs p q = inl (subst (λ z. Forks us z) (sym q.list) (got_second (Err e) e us q.before p q.first q.after))
  maps_tie (Err e) (Err g) us vs p q = tie_map us vs _ _ (gets_tie {A = ℕ} n f owner (Err e) (Err g) us vs p q) (λ s. s)

-- ---- a lock
lock_bits : (t v p l : Bool) (k : ℕ) → ((t && v) && (not l && nat_lt 0 k)) ≡ true → (t && ((not v && (not p && l)) || ((v && l) || (v && (k == 0))))) ≡ true → ⊥
lock_bits false v p l k e f = cc
lock_bits true false p l k e f = cc
lock_bits true true p true k e f = cc
lock_bits true true p false k e f = let above : nat_lt 0 k ≡ true = e in let none : (k == 0) ≡ true = f in grind (arith, nat_tests)

never_both : (k : KindWord) → IsTrue (is_lockable k) → IsTrue (is_worked_on k) → ⊥
never_both k e f = lock_bits (is_table k.kind) k.validated k.partial k.locked k.number e f

module _ (n : Machine) (f : ℕ) where
  abbrev swap : ℕ → ℕ → Visit
  swap x y = visit (Kind f) (Cas x (kind_write (locked_kind (kind_fields x)))) y

  data Swapped (x y : ℕ) : Result Locked Stop → Type 0 where
    won : (level : ℕ) → y ≡ x → (kind_fields x).kind ≡ level_type level → Swapped x y (Ok (Table level x))
    missed_it : y ≢ x → Swapped x y (Err (Paused (Lost (number (sizes_of n) (Kind f)) x y)))

  data LockRest (x : ℕ) : Result Locked Stop → List Visit → Type 0 where
    other : is_lockable (kind_fields x) ≡ false → is_worked_on (kind_fields x) ≡ false → LockRest x (Ok (Other x)) []
    busy : IsTrue (is_worked_on (kind_fields x)) → LockRest x (Err (Paused (Busy f x))) []
    swapped : (y : ℕ) (a : Result Locked Stop) → IsTrue (is_lockable (kind_fields x)) → Swapped x y a → LockRest x a (swap x y ∷ [])

  data Locks : Result Locked Stop → List Visit → Type 0 where
    locks : (x : ℕ) (a : Result Locked Stop) (rest : List Visit) → LockRest x a rest → Locks a (rest ++ (visit (Kind f) Load x ∷ []))

  lock_moved : (a : Result Locked Stop) (us vs : List Visit) → us ≡ vs → Locks a vs → Locks a us
  lock_moved a us vs e l = subst (λ z. Locks a z) (sym e) l

  lock_two : (x y : ℕ) (vs : List Visit) → Then (Only (visit (Kind f) Load x)) (Only (swap x y)) vs → vs ≡ (swap x y ∷ []) ++ (visit (Kind f) Load x ∷ [])
  lock_two x y vs t = t.list ∙ (ap (λ z. t.after ++ z) t.first ∙ ap (λ z. z ++ (visit (Kind f) Load x ∷ [])) t.next)

  locked : (a : Result Locked Stop) (vs : List Visit) → LocksBy n f a vs → Locks a vs
  locked (Ok (Table level x)) vs p = lock_moved _ vs _ (lock_two x x vs p.2) (locks x _ (swap x x ∷ []) (swapped x _ p.0 (won level refl p.1)))
  locked (Ok (Other x)) vs p = lock_moved _ vs ([] ++ (visit (Kind f) Load x ∷ [])) p.2 (locks x _ [] (other p.0 p.1))
  locked (Err (Paused (Lost place x y))) vs p =
      lock_moved _ vs _ (lock_two x y vs p.3) (subst (λ z. Locks (Err (Paused (Lost z x y))) ((swap x y ∷ []) ++ (visit (Kind f) Load x ∷ []))) (sym p.0) (locks x _ (swap x y ∷ []) (swapped y _ p.1 (missed_it p.2))))
  locked (Err (Paused (Busy g x))) vs p = lock_moved _ vs ([] ++ (visit (Kind f) Load x ∷ [])) p.2 (subst (λ z. Locks (Err (Paused (Busy z x))) ([] ++ (visit (Kind f) Load x ∷ []))) (sym p.0) (locks x _ [] (busy p.1)))
  locked (Err e) vs p = absurd p

  swapped_agree : (x y z : ℕ) (a b : Result Locked Stop) → y ≡ z → Swapped x y a → Swapped x z b → AgreeLock a b
  swapped_agree x y z _ _ s (won l e k) (won m g h) = (refl, sym k ∙ h)
  swapped_agree x y z _ _ s (won l e k) (missed_it g) = absurd (g (sym s ∙ e))
  swapped_agree x y z _ _ s (missed_it e) (won m g h) = absurd (e (s ∙ g))
  swapped_agree x y z _ _ s (missed_it e) (missed_it g) = ap (λ k. Paused (Lost (number (sizes_of n) (Kind f)) x k)) s

  lock_rest_tie : (x : ℕ) (a b : Result Locked Stop) (us vs : List Visit) → LockRest x a us → LockRest x b vs → Tie us vs (AgreeLock a b)
  lock_rest_tie x _ _ _ _ (other e g) (other h i) = inr (refl, refl)
  lock_rest_tie x _ _ _ _ (other e g) (busy h) = absurd (let t = sym g ∙ h in cc)
  lock_rest_tie x _ _ _ _ (other e g) (swapped y b h s) = absurd (let t = sym e ∙ h in cc)
  lock_rest_tie x _ _ _ _ (busy h) (other e g) = absurd (let t = sym g ∙ h in cc)
  lock_rest_tie x _ _ _ _ (busy h) (busy i) = inr (refl, refl)
  lock_rest_tie x _ _ _ _ (busy h) (swapped y b i s) = absurd (never_both (kind_fields x) i h)
  lock_rest_tie x _ _ _ _ (swapped y a h s) (other e g) = absurd (let t = sym e ∙ h in cc)
  lock_rest_tie x _ _ _ _ (swapped y a h s) (busy i) = absurd (never_both (kind_fields x) h i)
  lock_rest_tie x _ _ _ _ (swapped y a h s) (swapped z b i t) = tie_map _ _ _ _ (tie_one _ (Kind f) (Cas x (kind_write (locked_kind (kind_fields x)))) None y z) (λ e. swapped_agree x y z a b e s t)

  locks_are : (a b : Result Locked Stop) (us vs : List Visit) → Locks a us → Locks b vs → Tie us vs (AgreeLock a b)
  locks_are _ _ _ _ (locks x a rest l) (locks y b more k) =
      tie_then (visit (Kind f) Load x ∷ []) (visit (Kind f) Load y ∷ []) rest more (x ≡ y) (AgreeLock a b) (tie_one _ (Kind f) Load None x y) (λ e s. lock_rest_tie y a b rest more (subst (λ z. LockRest z a rest) s l) k)

  pub locks_tie : (a b : Result Locked Stop) (us vs : List Visit) → LocksBy n f a us → LocksBy n f b vs → Tie us vs (AgreeLock a b)
  locks_tie a b us vs p q = locks_are a b us vs (locked a us p) (locked b vs q)
