-- How a destruction begins, the pass over all frames, and what is listed: by what is found.
use Rattle.std.proofs.Common.{◌≡◌, ◌≢◌, ◌+◌, ◌<◌, ◌≤◌, ◌++◌, if◌then◌else◌, ℕ, true, false, List, [], ◌∷◌, Option, Some, None, Ok, Err, length, refl, sym, ap, ◌∙◌, subst, inr, arith}
use Rattle.xp_words.specs.declared.place.Place.TheVariants.{Kind, Life, Priv, Refs}
use Rattle.xp_words.specs.declared.reply.Refusal.TheVariants.{Dying, NoDomain, NoPrivilege}
use Rattle.xp_words.specs.declared.reply.Stop.TheVariants.{Refused}
use Rattle.xp_board.specs.Readings.{has_now, owner_of}
use Rattle.xp_board.specs.Told.{Post, PortValue}
use Rattle.xp_board.specs.declared.step.Act.TheVariants.{Cas, Load}
use Rattle.step_maker.specs.Moves.{Came, Moment, Ran}
use Rattle.step_maker.specs.Pauses.{found_in_use}
use Rattle.step_maker.specs.Visits.{Does, Only, Then, Visit, visit, visits}
use Rattle.step_maker.proofs.Parts.{cut, parts, stayed}
use Rattle.step_maker.proofs.Visiting.{does_as, does_came}
use Rattle.frame_claims.specs.Found.{Upwards}
use Rattle.frame_claims.specs.Found as founds
use Rattle.frame_words.specs.Refs.{saw_refs}
use Rattle.domain_destroy.specs.Course as course
use Rattle.domain_destroy.specs.Course.{BeginsBy, FoundInUse, FoundNoUse, LeftFrame, ListsFrame, LooksAndDooms, own_of}
use Rattle.determined_laws.specs.Courses.{Alike}
use Rattle.determined_laws.specs.Forks.{Tie}
use Rattle.determined_laws.proofs.Courses.{Goes, alike_does, alike_map, goes_came, goes_same, more, none}
use Rattle.determined_laws.proofs.Ties.{tie_map, tie_one, tie_then}
use Rattle.determined_releases.proofs.Calls.{alike_with}
use Rattle.determined_releases.proofs.Emptying.{Done}

-- ---- the beginning
module _ (q : Post) (d : ℕ) where
  data Doomed (found : ℕ) (a : Done) : Type 0 where
    begins : found ≡ 0 → a ≡ Ok tt → Doomed found a
    dies : found ≢ 0 → a ≡ Err (Refused (Dying d found)) → Doomed found a

  data BegunRest (x : ℕ) (a : Done) : List Visit → Type 0 where
    barred : has_now d x ≡ false → a ≡ Err (Refused (NoPrivilege (own_of q) d)) → BegunRest x a []
    dooms : (found : ℕ) → has_now d x ≡ true → Doomed found a → BegunRest x a (visit (Life d) (Cas 0 (q.vcpu + 1)) found ∷ [])

  data Begun (a : Done) : List Visit → Type 0 where
    missing : length q.machine.page_limit ≤ d → a ≡ Err (Refused NoDomain) → Begun a []
    self : d ≡ own_of q → a ≡ Err (Refused (NoPrivilege (own_of q) d)) → Begun a []
    looks : (x : ℕ) (rest : List Visit) → d < length q.machine.page_limit → d ≢ own_of q → BegunRest x a rest → Begun a (rest ++ (visit (Priv (own_of q)) Load x ∷ []))

  begun_as : (a : Done) (us vs : List Visit) → us ≡ vs → Begun a vs → Begun a us
  begun_as a us vs e b = subst (λ z. Begun a z) (sym e) b

  two : (x found : ℕ) (vs : List Visit) → LooksAndDooms q d x found vs → vs ≡ (visit (Life d) (Cas 0 (q.vcpu + 1)) found ∷ []) ++ (visit (Priv (own_of q)) Load x ∷ [])
  two x found vs t = t.list ∙ (ap (λ z. t.after ++ z) t.first ∙ ap (λ z. z ++ (visit (Priv (own_of q)) Load x ∷ [])) t.next)

  begun_by : (a : Done) (vs : List Visit) → BeginsBy q d a vs → Begun a vs
  begun_by _ _ (course.BeginsBy.begun x vs few other may steps) = begun_as _ vs _ (two x 0 vs steps) (looks x _ few other (dooms 0 may (begins refl refl)))
  begun_by _ _ (course.BeginsBy.missing vs far nothing) = begun_as _ vs [] nothing (missing far refl)
  begun_by _ _ (course.BeginsBy.own vs same nothing) = begun_as _ vs [] nothing (self same refl)
  begun_by _ _ (course.BeginsBy.barred x vs few other off saw) = begun_as _ vs _ saw (looks x [] few other (barred off refl))
  begun_by _ _ (course.BeginsBy.dying x found vs few other may off steps) = begun_as _ vs _ (two x found vs steps) (looks x _ few other (dooms found may (dies off refl)))

  doomed_same : (x y : ℕ) (a b : Done) → x ≡ y → Doomed x a → Doomed y b → a ≡ b
  doomed_same x y a b e (begins z is) (begins k are) = is ∙ sym are
  doomed_same x y a b e (begins z is) (dies off are) = absurd (off (sym e ∙ z))
  doomed_same x y a b e (dies off is) (begins z are) = absurd (off (e ∙ z))
  doomed_same x y a b e (dies off is) (dies out are) = is ∙ (ap (λ z. Err (Refused (Dying d z))) e ∙ sym are)

  begun_rest_tie : (x : ℕ) (a b : Done) (us vs : List Visit) → BegunRest x a us → BegunRest x b vs → Tie us vs (a ≡ b)
  begun_rest_tie x a b _ _ (barred off is) (barred out are) = inr (refl, is ∙ sym are)
  begun_rest_tie x a b _ _ (barred off is) (dooms found may goes) = absurd (let e = sym off ∙ may in cc)
  begun_rest_tie x a b _ _ (dooms found may goes) (barred off is) = absurd (let e = sym off ∙ may in cc)
  begun_rest_tie x a b _ _ (dooms found may goes) (dooms met might next) = tie_map _ _ _ _ (tie_one _ (Life d) (Cas 0 (q.vcpu + 1)) None found met) (λ e. doomed_same found met a b e goes next)

  -- the own domain is one of the machine's
  pub begins_tie : own_of q < length q.machine.page_limit → (a b : Done) (us vs : List Visit) → BeginsBy q d a us → BeginsBy q d b vs → Tie us vs (a ≡ b)
  begins_tie real a b us vs p r = by us vs (begun_by a us p) (begun_by b vs r)
    where
      by : (us vs : List Visit) → Begun a us → Begun b vs → Tie us vs (a ≡ b)
      by _ _ (missing far is) (missing out are) = inr (refl, is ∙ sym are)
      by _ _ (missing far is) (self same are) = absurd (let s = same in omega (arith, far, real, s))
      by _ _ (missing far is) (looks x rest few other goes) = absurd (omega (arith, far, few))
      by _ _ (self same is) (missing far are) = absurd (let s = same in omega (arith, far, real, s))
      by _ _ (self same is) (self also are) = inr (refl, is ∙ sym are)
      by _ _ (self same is) (looks x rest few other goes) = absurd (other same)
      by _ _ (looks x rest few other goes) (missing far is) = absurd (omega (arith, far, few))
      by _ _ (looks x rest few other goes) (self same is) = absurd (other same)
      by _ _ (looks x rest few other goes) (looks y others low off next) =
          tie_then (visit (Priv (own_of q)) Load x ∷ []) (visit (Priv (own_of q)) Load y ∷ []) rest others (x ≡ y) (a ≡ b) (tie_one _ (Priv (own_of q)) Load None x y)
          (λ e s. begun_rest_tie y a b rest others (subst (λ z. BegunRest z a rest) s goes) next)

-- ---- one frame of the pass: whether it is in use, and by which kind word
module _ (d f : ℕ) where
  pub data Seen (y : ℕ) (held : Option ℕ) : List Visit → Type 0 where
    others : owner_of y ≢ Some d → held ≡ None → Seen y held []
    owned : (x : ℕ) → owner_of y ≡ Some d → held ≡ (if found_in_use x then Some x else None) → Seen y held (visit (Kind f) Load x ∷ [])

  pub data Sees (held : Option ℕ) : List Visit → Type 0 where
    sees : (y : ℕ) (rest : List Visit) → Seen y held rest → Sees held (rest ++ (saw_refs f y ∷ []))

  pair : (x y : ℕ) (vs : List Visit) → Then (Only (saw_refs f y)) (Only (visit (Kind f) Load x)) vs → vs ≡ (visit (Kind f) Load x ∷ []) ++ (saw_refs f y ∷ [])
  pair x y vs t = t.list ∙ (ap (λ z. t.after ++ z) t.first ∙ ap (λ z. z ++ (saw_refs f y ∷ [])) t.next)

  no_use : (vs : List Visit) → FoundNoUse d f vs → Sees None vs
  no_use vs (course.FoundNoUse.others y off saw) = subst (λ z. Sees None z) (sym saw) (sees y [] (others off refl))
  no_use vs (course.FoundNoUse.unused y x own off steps) = subst (λ z. Sees None z) (sym (pair x y vs steps)) (sees y _ (owned x own (rw off refl)))

  in_use : (x : ℕ) (vs : List Visit) → FoundInUse d f x vs → Sees (Some x) vs
  in_use x vs p = let on = p.in_use in subst (λ z. Sees (Some x) z) (sym (pair x p.word vs p.steps)) (sees p.word _ (owned x p.owned (rw on refl)))

  seen_tie : (y : ℕ) (a b : Option ℕ) (us vs : List Visit) → Seen y a us → Seen y b vs → Tie us vs (a ≡ b)
  seen_tie y a b _ _ (others off is) (others out are) = inr (refl, is ∙ sym are)
  seen_tie y a b _ _ (others off is) (owned x own are) = absurd (off own)
  seen_tie y a b _ _ (owned x own is) (others off are) = absurd (off own)
  seen_tie y a b _ _ (owned x own is) (owned z also are) = tie_map _ _ _ _ (tie_one _ (Kind f) Load None x z) (λ e. is ∙ (ap (λ k. if found_in_use k then Some k else None) e ∙ sym are))

  sees_tie : (a b : Option ℕ) (us vs : List Visit) → Sees a us → Sees b vs → Tie us vs (a ≡ b)
  sees_tie a b _ _ (sees y rest p) (sees z also q) = tie_then (saw_refs f y ∷ []) (saw_refs f z ∷ []) rest also (y ≡ z) (a ≡ b) (tie_one _ (Refs f) Load None y z) (λ e s. seen_tie z a b rest also (subst (λ k. Seen k a rest) s p) q)

  pub checks_alike : {v w x : PortValue} (a b : Option ℕ) → Does v w (Sees a) → Does v x (Sees b) → Alike v w x (a ≡ b)
  checks_alike a b p q = alike_does p q (λ us vs s t. sees_tie a b us vs s t)

-- ---- the pass over all frames, until one is in use
pub record Pass : Type 0 where
  pub port : PortValue
  pub frame : ℕ
  pub held : Option ℕ

abbrev pub pass : PortValue → ℕ → Option ℕ → Pass
pass v f held = record { port = v; frame = f; held = held }

pass_same : (s t : Pass) → s.port ≡ t.port → s.frame ≡ t.frame → s.held ≡ t.held → s ≡ t
pass_same s t a b c = rw (a, b, c) refl

abbrev pub frame_on : ℕ → Option ℕ → ℕ
frame_on f None = f + 1
frame_on f (Some x) = f

-- all frames were looked at, or one is in use
pub data Passed (frames : ℕ) : ℕ → Option ℕ → Type 0 where
  whole : Passed frames frames None
  held : (f x : ℕ) → Passed frames f (Some x)

module _ (d frames : ℕ) where
  pub record Next (s t : Pass) : Type 0 where
    pub going : s.held ≡ None
    pub few : s.frame < frames
    pub sees : Does s.port t.port (λ vs. Sees d s.frame t.held vs)
    pub on : t.frame ≡ frame_on s.frame t.held

  next_came : (s t : Pass) → Next s t → Came s.port t.port
  next_came s t p = does_came s.port t.port _ p.sees

  next_alike : (s t u : Pass) → Next s t → Next s u → Alike s.port t.port u.port (t ≡ u)
  next_alike s t u p q =
      alike_with (checks_alike d s.frame t.held u.held p.sees q.sees) (λ same e. pass_same t u same (p.on ∙ (ap (λ z. frame_on s.frame z) e ∙ sym q.on)) e)

  no_more : {A : Type 0} (w : PortValue) (f : ℕ) (o : Option ℕ) (k : Pass) → Passed frames f o → Next (pass w f o) k → A
  no_more w _ _ k whole p = absurd (let few = p.few in omega (arith, few))
  no_more w _ _ k (held f x) p = absurd (let e = p.going in cc)

  module _ (v : PortValue) where
    up_goes : (m : ℕ) → m ≤ frames → (vs : List Visit) → Upwards (FoundNoUse d) 0 m vs → (w : PortValue) (ms : List Moment) → Ran v ms w → visits ms ≡ vs → Goes Next (pass v 0 None) (pass w m None)
    unfolding Does
    up_goes _ few _ (founds.Upwards.starts vs nothing) w ms ran is = subst (λ z. Goes Next (pass v 0 None) (pass z 0 None)) (sym (stayed v w (ms, ran, is ∙ nothing))) none
    up_goes _ few _ (founds.Upwards.goes_up n before now vs up one list) w ms ran is =
        let c = cut v w before now ms ran (is ∙ list) in
        more (pass c.port n None) (pass w (n + 1) None) (up_goes n (omega (arith, few)) before up c.port c.ms c.ran c.are)
        (record { going = refl; few = omega (arith, few); sees = (c.ns, c.goes, no_use d n (visits c.ns) (subst (λ z. FoundNoUse d n z) (sym c.more) one)); on = refl })

    pub checked_goes : (m : ℕ) → m ≤ frames → (w : PortValue) → Does v w (λ vs. Upwards (FoundNoUse d) 0 m vs) → Goes Next (pass v 0 None) (pass w m None)
    unfolding Does
    checked_goes m few w p = up_goes m few (visits p.0) p.2 w p.0 p.1 refl

    pub used_goes : (f x : ℕ) → f < frames → (w : PortValue) → Does v w (λ vs. Then (Upwards (FoundNoUse d) 0 f) (FoundInUse d f x) vs) → Goes Next (pass v 0 None) (pass w f (Some x))
    used_goes f x few w p =
        let c = parts v w (λ vs. Upwards (FoundNoUse d) 0 f vs) (λ vs. FoundInUse d f x vs) p in
        more (pass c.0 f None) (pass w f (Some x)) (checked_goes f (omega (arith, few)) c.0 c.1) (record { going = refl; few = few; sees = does_as c.0 w _ _ (in_use d f x) c.2; on = refl })

    pub passes_alike : (w x : PortValue) (f g : ℕ) (o p : Option ℕ) → Passed frames f o → Passed frames g p → Goes Next (pass v 0 None) (pass w f o) → Goes Next (pass v 0 None) (pass x g p) → Alike v w x ((f ≡ g) × (o ≡ p))
    passes_alike w x f g o p ended out a b =
        alike_map (goes_same Next (λ s. s.port) next_came next_alike (pass v 0 None) (pass w f o) (pass x g p) (λ k s. no_more w f o k ended s) (λ k s. no_more x g p k out s) a b)
        (λ e. (ap (λ (z : Pass). z.frame) e, ap (λ (z : Pass). z.held) e))

-- ---- what is listed of one frame
pub listed_same : (d f y : ℕ) (some more : List LeftFrame) → ListsFrame d f y some → ListsFrame d f y more → some ≡ more
listed_same d f y _ _ (course.ListsFrame.others off) (course.ListsFrame.others out) = refl
listed_same d f y _ _ (course.ListsFrame.others off) (course.ListsFrame.left is some) = absurd (off is)
listed_same d f y _ _ (course.ListsFrame.left is some) (course.ListsFrame.others off) = absurd (off is)
listed_same d f y _ _ (course.ListsFrame.left is some) (course.ListsFrame.left also any) = refl

pub passes_came : (d frames : ℕ) (s t : Pass) → Goes (Next d frames) s t → Came s.port t.port
passes_came d frames s t p = goes_came (Next d frames) (λ z. z.port) (next_came d frames) (next_alike d frames) s t p
