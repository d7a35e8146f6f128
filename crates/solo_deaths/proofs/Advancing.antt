-- Behind its beginning a destruction by the only vCPU goes from place to place as its plain meaning, and only the gate or a frame in use stops it.
use Rattle.std.proofs.Common.{◌≡◌, ◌≢◌, ◌⊎◌, ℕ, ◌+◌, ◌-◌, ◌<◌, ◌≤◌, Bool, true, false, List, [], ◌++◌, length, None, Result, Ok, Err, refl, sym, ap, ◌∙◌, subst, inl, inr, arith}
use Rattle.std.proofs.lemmas.List.{append-nil}
use Rattle.xp_words.specs.Machine.{IsMachine, Machine}
use Rattle.xp_words.specs.declared.place.Place.TheVariants.{Refs}
use Rattle.xp_words.specs.declared.reply.Stop.{Stop}
use Rattle.xp_words.specs.declared.reply.Stop.TheVariants.{Refused, Paused}
use Rattle.xp_board.specs.Readings.{domain_of}
use Rattle.xp_board.specs.Told.{Post, PortValue, told_word}
use Rattle.xp_board.specs.declared.step.Act.TheVariants.{Load}
use Rattle.xp_board.specs.declared.step.StepKind.TheVariants as kinds
use Rattle.step_maker.specs.Moves.{Moves}
use Rattle.step_maker.specs.Visits.{Visit, Does}
use Rattle.step_maker.proofs.Telling.{told_there}
use Rattle.step_maker.proofs.Visiting.{does_came}
use Rattle.course_laws.proofs.Awaiting.{AloneStays, NeitherLostNorBusy}
use Rattle.table_law.specs.Plain.{Plain, share_of}
use Rattle.domain_destroy.specs.Clearing.{ClearsFrame}
use Rattle.domain_destroy.specs.Coming.{left_at, seen_to}
use Rattle.domain_destroy.specs.Course as course
use Rattle.domain_destroy.specs.Course.{Advances, FoundInUse, FoundNoUse, LeftFrame, ListsFrame}
use Rattle.domain_destroy.specs.Emptying as emptying
use Rattle.domain_destroy.specs.Emptying.{EmptiesOne}
use Rattle.domain_destroy.specs.declared.place.DestroyAt.{DestroyAt}
use Rattle.domain_destroy.specs.declared.place.DestroyAt.TheVariants.{Begins, Stops, Empties, Clears, Checks, Lists}
use Rattle.script_law.specs.Destroying.{left_below, left_line, stripped}
use Rattle.solo_deaths.specs.Between.{Between, Within}
use Rattle.solo_deaths.specs.Dying.{AreLeft, lines_to, strip_from, stripped_at}
use Rattle.solo_deaths.proofs.Clearing.{clears}
use Rattle.solo_deaths.proofs.Given.{PausedReleaseLeaves, ReleaseLeaves}
use Rattle.solo_deaths.proofs.Looks.{AreLooks, both, in_use, looks_leave, no_use, up}
use Rattle.solo_deaths.proofs.Places.{below_next, left_append, left_length, length_append, one_listed, strip_next, strip_none}
use Rattle.solo_deaths.proofs.Standing.{between_by, between_looks, telling}

-- ---- how far it came
-- The plain frames at a place, of which the port says something: what is left to do there leaves q, and so much is listed.
pub record Reached (n : Machine) (d : ℕ) (at : DestroyAt) (q : Plain) (made : List LeftFrame) (Port : Plain → Type 0) : Type 0 where
  pub plain : Plain
  pub port : Port plain
  pub rest : stripped_at n d at plain ≡ q
  pub lines : AreLeft made (lines_to d at plain)
  pub counts : left_at at ≡ length (lines_to d at plain)
  pub inside : seen_to at ≤ n.frames

abbrev pub IsBegun : DestroyAt → Type 0
IsBegun Begins = ⊥
IsBegun at = Unit {0}

-- where it is paused
abbrev pub IsPaused : Post → PortValue → Plain → Type 0
IsPaused o w p = Between o w p ⊎ Within o w p

abbrev pub Gone : Post → ℕ → Plain → PortValue → DestroyAt → List LeftFrame → Result (Unit {0}) Stop → Type 0
Gone o d q w to made (Ok done) = IsBegun to × Reached o.machine d to q made (λ p. Between o w p)
Gone o d q w to made (Err (Paused e)) = IsBegun to × Reached o.machine d to q made (λ p. IsPaused o w p)
Gone o d q w to made (Err (Refused r)) = ⊥

more_lines : {n : Machine} {d : ℕ} {at : DestroyAt} {q : Plain} {Port : Plain → Type 0} (made : List LeftFrame) → Reached n d at q made Port → Reached n d at q (made ++ []) Port
more_lines {n} {d} {at} {q} {Port} made r = subst (λ xs. Reached n d at q xs Port) (sym (append-nil made)) r

none_below : (d : ℕ) (p : Plain) → left_below d p 0 ≡ []
unfolding left_below
none_below d p = refl

module _ (stays : AloneStays) (neither : NeitherLostNorBusy) (leaves_plain : ReleaseLeaves) (leaves_rest : PausedReleaseLeaves) (o : Post) (machine : IsMachine o.machine) (only : length o.machine.vcpu_domain ≡ 1) (real : o.vcpu < length o.machine.vcpu_domain)
    (d : ℕ) (apart : domain_of o.machine o.vcpu ≢ d) (q : Plain) (u : PortValue) (made : List LeftFrame) where
  abbrev n : Machine
  n = o.machine

  abbrev Here : DestroyAt → Type 0
  Here at = Reached n d at q made (λ p. Between o u p)

  post_here : (at : DestroyAt) → Here at → u.post ≡ o
  post_here at r = r.port.post

  -- each vCPU is the own one, of another domain
  no_other : (at : DestroyAt) (v : ℕ) → Here at → v < length u.post.machine.vcpu_domain → domain_of u.post.machine v ≢ d
  no_other at v r low own =
      let is : v < length n.vcpu_domain = subst (λ (p : Post). v < length p.machine.vcpu_domain) (post_here at r) low in
      let e : v ≡ o.vcpu = omega (arith, is, only, real) in
      apart (ap (domain_of n) (sym e) ∙ ap (λ (p : Post). domain_of p.machine v) (sym (post_here at r)) ∙ own)

  -- ---- words of vCPUs
  abbrev Passed : PortValue → Result Bool Stop → Type 0
  Passed w (Ok passed) = (passed ≡ false) × (w ≡ u)
  Passed w (Err e) = ⊥

  passes : (v : ℕ) (w : PortValue) (answers : List Bool) (answer : Result Bool Stop) → domain_of u.post.machine v ≢ d → EmptiesOne d v u w answers answer → Passed w answer
  passes v _ _ _ off (emptying.EmptiesOne.other is) = (refl, refl)
  passes v _ _ _ off (emptying.EmptiesOne.emptied w answers own all) = absurd (off own)
  passes v _ _ _ off (emptying.EmptiesOne.stopped w answers e own all) = absurd (off own)

  -- ---- frames lose their marks
  low_by : (at : DestroyAt) (f : ℕ) → Here at → f < u.post.machine.frames → f < n.frames
  low_by at f r low = subst (λ (p : Post). f < p.machine.frames) (post_here at r) low

  cleared_to : (f : ℕ) (w : PortValue) (r : Here (Clears f)) → f < n.frames → Between o w (stripped d f r.plain) → Reached n d (Clears (f + 1)) q made (λ p. Between o w p)
  cleared_to f w r low b = record { plain = stripped d f r.plain; port = b; rest = sym (strip_next d n.frames f r.plain low) ∙ r.rest; lines = r.lines; counts = refl; inside = omega arith }

  either : {at : DestroyAt} {w : PortValue} → Reached n d at q made (λ p. Between o w p) → Reached n d at q made (λ p. IsPaused o w p)
  either r = record { plain = r.plain; port = inl r.port; rest = r.rest; lines = r.lines; counts = r.counts; inside = r.inside }

  uncleared_to : (f : ℕ) (w : PortValue) (answers : List Bool) (e : Stop) (r : Here (Clears f)) → f < n.frames → ClearsFrame d f u w answers (Err e) → Gone o d q w (Clears f) (made ++ []) (Err e)
  uncleared_to f w answers e r low one =
      let c = clears stays neither leaves_plain leaves_rest o machine f low d u r.plain r.port w answers (Err e) one in
      subst (λ s. Gone o d q w (Clears f) (made ++ []) (Err s)) (sym c.0) (
        tt,
        more_lines made (record {
          plain = c.1;
          port = inr c.2;
          rest = strip_next d n.frames f c.1 low ∙ ap (strip_from d (f + 1) (n.frames - (f + 1))) c.3 ∙ sym (strip_next d n.frames f r.plain low) ∙ r.rest;
          lines = r.lines;
          counts = refl;
          inside = omega arith;
        }),
      )

  -- ---- frames are looked at
  looked : (at : DestroyAt) (w : PortValue) (r : Here at) (P : List Visit → Type 0) → AreLooks P → Does u w P → Between o w r.plain
  looked at w r P looks does =
      between_by stays o u r.plain r.port w (told_word u) r.plain (does_came u w P does) (looks_leave u w P looks (telling stays o u r.plain r.port) does) (λ s k. refl) r.port.frames r.port.unkept

  -- ---- frames are listed
  listed_to : (f left y : ℕ) (w : PortValue) (more : List LeftFrame) (r : Here (Lists f left)) → f < n.frames → Moves u w (Refs f) Load kinds.Look None y → ListsFrame d f y more →
      Reached n d (Lists (f + 1) (left + length more)) q (made ++ more) (λ p. Between o w p)
  listed_to f left y w more r low look lists =
      let p = r.plain in
      let is : left_line d f (p.shares f) ≡ left_line d f (share_of y) = ap (left_line d f) (r.port.frames.shares f low ∙ ap share_of (told_there u w _ _ _ _ _ look (telling stays o u p r.port))) in
      let here : AreLeft more (left_line d f (p.shares f)) = subst (AreLeft more) (sym is) (one_listed d f y more lists) in
      let all = below_next d f p in
      let counts = r.counts in
      let sum = length_append (left_below d p f) (left_line d f (p.shares f)) in
      let same = left_length more (left_line d f (p.shares f)) here in
      record {
        plain = p;
        port = between_looks stays o u p r.port w _ _ _ _ look;
        rest = r.rest;
        lines = subst (AreLeft (made ++ more)) (sym all) (left_append made more (left_below d p f) (left_line d f (p.shares f)) r.lines here);
        counts = ap (λ k. left + k) same ∙ ap (λ k. k + length (left_line d f (p.shares f))) counts ∙ sym sum ∙ ap length (sym all);
        inside = omega arith;
      }

  -- ---- from place to place
  stays_at : (at to : DestroyAt) (r : Here at) → stripped_at n d to r.plain ≡ stripped_at n d at r.plain → AreLeft made (lines_to d to r.plain) → left_at to ≡ length (lines_to d to r.plain) → seen_to to ≤ n.frames → Here to
  stays_at at to r rest lines counts inside = record { plain = r.plain; port = r.port; rest = rest ∙ r.rest; lines = lines; counts = counts; inside = inside }

  emptied_to : (v : ℕ) (w : PortValue) (answers : List Bool) (passed : Bool) → Here (Empties v) → v < length u.post.machine.vcpu_domain → EmptiesOne d v u w answers (Ok passed) → Gone o d q w (Empties (v + 1)) (made ++ []) (Ok tt)
  emptied_to v w answers passed r low one =
      let p = passes v w answers (Ok passed) (no_other (Empties v) v r low) one in
      subst (λ x. Gone o d q x (Empties (v + 1)) (made ++ []) (Ok tt)) (sym p.1) (tt, more_lines made (stays_at (Empties v) (Empties (v + 1)) r refl r.lines refl (omega arith)))

  emptied_due : (v : ℕ) (w : PortValue) (answers : List Bool) → Here (Empties v) → v < length u.post.machine.vcpu_domain → EmptiesOne d v u w answers (Ok true) → ⊥
  emptied_due v w answers r low one = let p = passes v w answers (Ok true) (no_other (Empties v) v r low) one in absurd (let e = p.0 in cc)

  pub advance : (at : DestroyAt) (w : PortValue) (to : DestroyAt) (more : List LeftFrame) (asked : List Bool) (answer : Result (Unit {0}) Stop) → IsBegun at → Here at → Advances d u at w to more asked answer → Gone o d q w to (made ++ more) answer
  advance _ _ _ _ _ _ begun r (course.Advances.begun w does) = absurd begun
  advance _ _ _ _ _ _ begun r (course.Advances.refused w e does) = absurd begun
  advance _ _ _ _ _ _ begun r (course.Advances.passed_over v low off) = (tt, more_lines made (stays_at (Stops v) (Stops (v + 1)) r refl r.lines refl (omega arith)))
  advance _ _ _ _ _ _ begun r (course.Advances.stopped v w low own look) = absurd (no_other (Stops v) v r low own)
  advance _ _ _ _ _ _ begun r (course.Advances.alive v found w low own off look) = absurd (no_other (Stops v) v r low own)
  advance _ _ _ _ _ _ begun r (course.Advances.all_stopped v high) = (tt, more_lines made (stays_at (Stops v) (Empties 0) r refl r.lines refl (omega arith)))
  advance _ _ _ _ _ _ begun r (course.Advances.emptied v w answers passed low one) = emptied_to v w answers passed r low one
  advance _ _ _ _ _ _ begun r (course.Advances.emptied_due v w answers low one) = absurd (emptied_due v w answers r low one)
  advance _ _ _ _ _ _ begun r (course.Advances.unemptied v w answers e low one) = absurd (passes v w answers (Err e) (no_other (Empties v) v r low) one)
  advance _ _ _ _ _ _ begun r (course.Advances.all_emptied v high) =
      (tt, more_lines made (stays_at (Empties v) (Clears 0) r (ap (λ k. strip_from d 0 k r.plain) (let e : n.frames - 0 ≡ n.frames = omega arith in e)) r.lines refl (omega arith)))
  advance _ _ _ _ _ _ begun r (course.Advances.cleared f w answers passed low one) =
      let inside = low_by (Clears f) f r low in
      (tt, more_lines made (cleared_to f w r inside (clears stays neither leaves_plain leaves_rest o machine f inside d u r.plain r.port w answers (Ok passed) one)))
  advance _ _ _ _ _ _ begun r (course.Advances.cleared_due f w answers low one) =
      let inside = low_by (Clears f) f r low in
      (tt, more_lines made (either (cleared_to f w r inside (clears stays neither leaves_plain leaves_rest o machine f inside d u r.plain r.port w answers (Ok true) one))))
  advance _ _ _ _ _ _ begun r (course.Advances.uncleared f w answers e low one) = uncleared_to f w answers e r (low_by (Clears f) f r low) one
  advance _ _ _ _ _ _ begun r (course.Advances.all_cleared f high) =
      let over : n.frames ≤ f = subst (λ (p : Post). p.machine.frames ≤ f) (post_here (Clears f) r) high in
      (tt, more_lines made (stays_at (Clears f) Checks r (sym (strip_none d n.frames f r.plain over)) r.lines refl (omega arith)))
  advance _ _ _ _ _ _ begun r (course.Advances.checked w does) = (
    tt,
    more_lines made (record {
      plain = r.plain;
      port = looked Checks w r _ (up (FoundNoUse d) 0 _ (no_use d)) does;
      rest = r.rest;
      lines = subst (AreLeft made) (sym (none_below d r.plain)) r.lines;
      counts = sym (ap length (none_below d r.plain));
      inside = omega arith;
    }),
  )
  advance _ _ _ _ _ _ begun r (course.Advances.in_use f x w low does) =
      (tt, more_lines made (record { plain = r.plain; port = inl (looked Checks w r _ (both _ _ (up (FoundNoUse d) 0 f (no_use d)) (in_use d f x)) does); rest = r.rest; lines = r.lines; counts = refl; inside = omega arith }))
  advance _ _ _ _ _ _ begun r (course.Advances.listed f left y w more low look lists) = (tt, listed_to f left y w more r (low_by (Lists f left) f r low) look lists)
  advance _ _ _ _ _ _ begun r (course.Advances.half_free f left y w low look own dying) =
      (tt, more_lines made (record { plain = r.plain; port = inl (between_looks stays o u r.plain r.port w _ _ _ _ look); rest = r.rest; lines = r.lines; counts = r.counts; inside = r.inside }))
