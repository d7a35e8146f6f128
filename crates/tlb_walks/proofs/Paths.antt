-- What the steps of a walk show: its course, what it serves, and why it stops.
use Rattle.std.proofs.Common.{◌≡◌, ◌<◌, ◌+◌, ◌≢◌, ℕ, ◌-◌, ◌≤◌, ◌==◌, nat_le, if◌then◌else◌, Bool, true, false, List, [], ◌∷◌, ◌++◌, length, Option, Some, None, Result, Ok, Err, IsTrue, refl, sym, ap, ◌∙◌, subst, inl, inr, arith}
use Rattle.std.proofs.lemmas.Bool.Decides.{nat_tests}
use Rattle.xp_words.specs.Entries.{is_bit, frame_of}
use Rattle.xp_words.specs.Machine.{Machine}
use Rattle.xp_words.specs.Places.{is_place, number, place_at, sizes_of}
use Rattle.xp_words.specs.declared.place.Place.{Place}
use Rattle.xp_words.specs.declared.place.Place.TheVariants.{Cell}
use Rattle.xp_words.specs.declared.reply.Pause.TheVariants.{Lost}
use Rattle.xp_words.specs.declared.reply.Refusal.TheVariants.{NotMapped}
use Rattle.xp_words.specs.declared.reply.Stop.{Stop}
use Rattle.xp_words.specs.declared.reply.Stop.TheVariants.{Refused, Paused}
use Rattle.xp_words.proofs.PlaceLaws.{place_back}
use Rattle.xp_words.proofs.Shared.{eq_false as when_ne}
use Rattle.xp_board.specs.declared.holdings.Made.{Made}
use Rattle.xp_board.specs.declared.step.Act.TheVariants.{Load, Cas}
use Rattle.xp_board.specs.declared.step.StepKind.{StepKind}
use Rattle.xp_board.specs.declared.step.StepKind.TheVariants as kinds
use Rattle.xp_board.specs.Acts.{left_by}
use Rattle.xp_board.specs.Steps.{is_at, is_same, last_since}
use Rattle.xp_board.specs.Told.{Post, PortValue}
use Rattle.xp_board.proofs.PlaceTests.{is_same-refl}
use Rattle.xp_board.proofs.Sums.{when_eq}
use Rattle.step_maker.specs.Moves.{Came, Met, Moves, step_at}
use Rattle.step_maker.proofs.Coming.{came_post, came_trans, met_after, met_before, moment_of, moves_came, moves_met}
use Rattle.step_maker.specs.Answers.{Deed, Misses, Serves, Stops, missed, misses}
use Rattle.step_maker.specs.Asked.{Request, IsAsked, of, walked}
use Rattle.step_maker.specs.Finding.{FoundAt}
use Rattle.step_maker.specs.Licences.{is_unmapped, IsReached, below}
use Rattle.step_maker.specs.Visits.{Does, Only, Then, Where}
use Rattle.step_maker.proofs.Changing.{found_after, found_before, moves_found}
use Rattle.step_maker.proofs.Growing.{asks, reached}
use Rattle.step_maker.proofs.Piecing.{same_request, serves_came, serves_step}
use Rattle.step_maker.proofs.Visiting.{does_as, does_one, does_then, then_none}
use Rattle.step_maker.proofs.Noting.{made_now, moves_steps}
use Rattle.tlb_walks.specs.Addresses.{index_of}
use Rattle.tlb_walks.specs.Asking.{IsWalkStop}
use Rattle.tlb_walks.specs.Flying.{EntryMoves, PathMoves, alone, both, ends, goes}
use Rattle.tlb_walks.specs.Walks as by
use Rattle.tlb_walks.specs.Walks.{EndsAt, EntryBy, PathBy, barrier_with, saw_entry, sets_bits}
use Rattle.tlb_walks.specs.declared.walks.Walked.{Walked}

-- ---- one entry
module _ (table i x new : ℕ) where
  pub entry_came : (v w : PortValue) (found : ℕ) → EntryMoves v w table i x new found → Came v w
  entry_came v w found (alone off same m) = moves_came v w _ _ _ _ _ m
  entry_came v w found (both u on m k) = came_trans v u w (moves_came v u _ _ _ _ _ m) (moves_came u w _ _ _ _ _ k)

  pub entry_place : (v w : PortValue) (found : ℕ) → EntryMoves v w table i x new found → IsTrue (is_place (sizes_of v.post.machine) (Cell table i))
  entry_place v w found (alone off same m) = m.may.place
  entry_place v w found (both u on m k) = m.may.place

  -- the load found it
  pub entry_found : (o v w : PortValue) (found : ℕ) → Came o v → EntryMoves v w table i x new found → FoundAt (Met o w) (Cell table i) x
  entry_found o v w found came (alone off same m) = found_after o v w _ _ came (moves_found v w _ _ _ _ _ m)
  entry_found o v w found came (both u on m k) = found_before o u w _ _ (moves_came u w _ _ _ _ _ k) (found_after o v u _ _ came (moves_found v u _ _ _ _ _ m))

  pub entry_does : (v w : PortValue) (found : ℕ) → EntryMoves v w table i x new found → Does v w (EntryBy table i x new found)
  entry_does v w found (alone off same m) =
      subst (λ b. Does v w (Then (Only (saw_entry table i x)) (Where b (Only (sets_bits table i x new found))))) (sym off)
      (does_as v w _ _ (λ vs a. then_none _ vs a) (does_one v w _ _ _ _ _ m))
  entry_does v w found (both u on m k) =
      subst (λ b. Does v w (Then (Only (saw_entry table i x)) (Where b (Only (sets_bits table i x new found))))) (sym on)
      (does_then v u w _ _ (does_one v u _ _ _ _ _ m) (does_one u w _ _ _ _ _ k))

-- ---- from a table down, its course
pub path_came : (w : PortValue) (va : ℕ) (write : Bool) (answer : Result Walked Stop) (v : PortValue) (level table : ℕ) (b : Option ℕ) → PathMoves w va write answer v level table b → Came v w
path_came w va write answer v level table b (ends _ _ _ _ x found m a) = entry_came table (index_of va level) x _ v w found m
path_came w va write answer v level table b (goes _ u _ _ _ x more mapped m rest) =
    came_trans v u w (entry_came table (index_of va level) x _ v u x m) (path_came w va write answer u (level - 1) (frame_of x) (barrier_with b x) rest)

pub path_does : (w : PortValue) (va : ℕ) (write : Bool) (answer : Result Walked Stop) (v : PortValue) (level table : ℕ) (b : Option ℕ) → PathMoves w va write answer v level table b →
    Does v w (PathBy v.post.machine va write answer level table b)
path_does w va write answer v level table b (ends _ _ _ _ x found m a) =
    does_as v w _ _ (λ vs e. by.ends level table b vs x found e a) (entry_does table (index_of va level) x _ v w found m)
path_does w va write answer v level table b (goes _ u _ _ _ x more mapped m rest) =
    let same = came_post v u (entry_came table (index_of va level) x _ v u x m) in
    does_as v w _ _ (λ vs t. by.goes level table b vs t.before t.after x more mapped t.first t.next t.list)
    (does_then v u w _ _ (entry_does table (index_of va level) x _ v u x m)
    (subst (λ (p : Post). Does u w (PathBy p.machine va write answer (level - 1) (frame_of x) (barrier_with b x))) same (path_does w va write answer u (level - 1) (frame_of x) (barrier_with b x) rest)))

-- ---- what it serves
abbrev miss_by : ℕ → ℕ → Place → List Deed
miss_by found x p = if found == x then [] else Misses p ∷ []

no_miss : (found x : ℕ) (p : Place) → found ≡ x → miss_by found x p ≡ []
no_miss found x p e = rw (when_eq found x e) refl

one_miss : (found x : ℕ) (p : Place) → found ≢ x → miss_by found x p ≡ Misses p ∷ []
one_miss found x p e = rw (when_ne found x e) refl

missed_here : (n : Machine) (place table i e x : ℕ) → IsTrue (is_place (sizes_of n) (Cell table i)) → place ≡ number (sizes_of n) (Cell table i) → missed n (Paused (Lost place e x)) ≡ Misses (Cell table i) ∷ []
missed_here n place table i e x there at =
    let is : place_at (sizes_of n) place ≡ Cell table i = ap (λ j. place_at (sizes_of n) j) at ∙ place_back (sizes_of n) (Cell table i) there in
    rw is refl

misses_are : (n : Machine) (table i level : ℕ) (b : Option ℕ) (x new found : ℕ) (answer : Result Walked Stop) → IsTrue (is_place (sizes_of n) (Cell table i)) → EndsAt n table i level b x new found answer →
    miss_by found x (Cell table i) ≡ misses n answer
misses_are n table i level b x new found (Ok r) there (a, c, met, d, e) = no_miss found x (Cell table i) met
misses_are n table i level b x new found (Err (Refused (NotMapped l e))) there (a, c, d, met) = no_miss found x (Cell table i) met
misses_are n table i level b x new found (Err (Paused (Lost place e y))) there (at, c, d, bit, off, other) = one_miss found x (Cell table i) other ∙ sym (missed_here n place table i e y there at)
misses_are n table i level b x new found (Err _) there a = absurd a

module _ (r : Request) (walks : r.walks ≡ true) (o : PortValue) where
  more_asked : (v w : PortValue) (f : ℕ) → Came v w → IsAsked o.post.machine o.post.vcpu r (Met o v) f → IsAsked o.post.machine o.post.vcpu r (Met o w) f
  more_asked v w f came a =
      asks o.post.machine o.post.vcpu r (Met o v) r (Met o w) (same_request o.post.machine o.post.vcpu r (Met o v) (Met o w) (λ k x. met_before o v w k x came)) f a

  entry_serves : (v w : PortValue) (ds : List Deed) (table i x new found : ℕ) → Serves o v r ds → IsAsked o.post.machine o.post.vcpu r (Met o v) table → EntryMoves v w table i x new found →
      Serves o w r (miss_by found x (Cell table i) ++ ds)
  entry_serves v w ds table i x new found before asked (alone off met m) =
      subst (λ xs. Serves o w r (xs ++ ds)) (sym (no_miss found x (Cell table i) met)) (serves_step o v w r ds _ _ _ _ _ before m (inr (inl walks)))
  entry_serves v w ds table i x new found before asked (both u on m k) =
      serves_step o u w r ds _ _ _ _ _ (serves_step o v u r ds _ _ _ _ _ before m (inr (inl walks))) k
      (more_asked v w table (came_trans v u w (moves_came v u _ _ _ _ _ m) (moves_came u w _ _ _ _ _ k)) asked)

  below_asked : (v u : PortValue) (table i x new : ℕ) → Came o v → EntryMoves v u table i x new x → IsAsked o.post.machine o.post.vcpu r (Met o u) (frame_of x)
  below_asked v u table i x new came m = of r.owner None (walked table i x walks (entry_found table i x new o v u x came m) refl refl tt)

  pub path_serves : (w : PortValue) (va : ℕ) (write : Bool) (answer : Result Walked Stop) (v : PortValue) (level table : ℕ) (b : Option ℕ) (ds : List Deed) → Serves o v r ds →
      IsAsked o.post.machine o.post.vcpu r (Met o v) table → PathMoves w va write answer v level table b → Serves o w r (misses v.post.machine answer ++ ds)
  path_serves w va write answer v level table b ds before asked (ends _ _ _ _ x found m a) =
      subst (λ xs. Serves o w r (xs ++ ds)) (misses_are v.post.machine table (index_of va level) level _ x _ found answer (entry_place table (index_of va level) x _ v w found m) a)
      (entry_serves v w ds table (index_of va level) x _ found before asked m)
  path_serves w va write answer v level table b ds before asked (goes _ u _ _ _ x more mapped m rest) =
      let i = index_of va level in
      let came = serves_came o v r ds before in
      let there = subst (λ xs. Serves o u r (xs ++ ds)) (no_miss x x (Cell table i) refl) (entry_serves v u ds table i x _ x before asked m) in
      subst (λ (p : Post). Serves o w r (misses p.machine answer ++ ds)) (came_post v u (entry_came table i x _ v u x m))
      (path_serves w va write answer u (level - 1) (frame_of x) (barrier_with b x) ds there (below_asked v u table i x _ came m) rest)

-- ---- why it stops
least : (k : ℕ) → nat_le k k ≡ true
least k = grind (arith, nat_tests)

-- what was just loaded is the last that was found there
just_loaded : (v u : PortValue) (p : Place) (k : StepKind) (x : ℕ) → Moves v u p Load k None x → last_since (sizes_of v.post.machine) (length v.holdings.steps) p u.holdings.steps ≡ Some x
unfolding last_since left_by
just_loaded v u p k x m =
    let z = sizes_of v.post.machine in
    let y = made_now (step_at v.post.machine p Load k None) x in
    let at : is_at z p y ≡ true = ap (λ q. is_same q p) (place_back z p m.may.place) ∙ is_same-refl p in
    ap (λ (xs : List Made). last_since z (length v.holdings.steps) p xs) (moves_steps v u p Load k None x m)
    ∙ ap (λ b. if b then (if is_at z p y then Some x else last_since z (length v.holdings.steps) p v.holdings.steps) else None) (least (length v.holdings.steps))
    ∙ ap (λ b. if b then Some x else last_since z (length v.holdings.steps) p v.holdings.steps) at

module _ (r : Request) (walks : r.walks ≡ true) (o : PortValue) where
  entry_lost : (v w : PortValue) (table i x new found place : ℕ) → Came o v → IsAsked o.post.machine o.post.vcpu r (Met o v) table → EntryMoves v w table i x new found → found ≢ x →
      place ≡ number (sizes_of v.post.machine) (Cell table i) → Stops o w r (Paused (Lost place x found))
  unfolding Stops moment_of
  entry_lost v w table i x new found place came asked (alone off met m) other at = absurd (other met)
  entry_lost v w table i x new found place came asked (both u on m k) other at =
      let first = moves_came v u _ _ _ _ _ m in
      let second = moves_came u w _ _ _ _ _ k in
      let same = came_post o v came in (
        Cell table i,
        subst (λ (p : Post). place ≡ number (sizes_of p.machine) (Cell table i)) same at,
        (λ e. cc),
        (
          record {
            before = moment_of v (Cell table i) Load kinds.Fill None x;
            exchange = moment_of u (Cell table i) (Cas x new) kinds.Touch None found;
            new = new;
            was_before = met_before o u w _ (met_after o v u _ came (moves_met v u _ _ _ _ _ m)) second;
            was_exchange = met_after o u w _ (came_trans o v u came first) (moves_met u w _ _ _ _ _ k);
            place_before = refl;
            place = refl;
            act = refl;
            word = refl;
            last = subst (λ (p : Post). last_since (sizes_of p.machine) (length v.holdings.steps) (Cell table i) u.holdings.steps ≡ Some x) same (just_loaded v u (Cell table i) kinds.Fill x m);
            other = other;
          },
          more_asked r walks o v w table (came_trans v u w first second) asked,
        ),
      )

  -- the walk reached that table, at that level
  abbrev pub Reached : PortValue → ℕ → ℕ → Type 0
  Reached v level table = IsReached o.post.machine o.post.vcpu (Met o v) level table

  more_reached : (v w : PortValue) (level table : ℕ) → Came v w → Reached v level table → Reached w level table
  more_reached v w level table came a =
      reached o.post.machine o.post.vcpu r (Met o v) r (Met o w) (same_request o.post.machine o.post.vcpu r (Met o v) (Met o w) (λ k x. met_before o v w k x came)) level table a

  below_reached : (v u : PortValue) (level table i x new : ℕ) → Came o v → Reached v level table → 1 < level → is_unmapped v.post.machine x ≡ false → EntryMoves v u table i x new x →
      Reached u (level - 1) (frame_of x)
  below_reached v u level table i x new came at more mapped m =
      let up : level - 1 + 1 ≡ level = omega arith in
      below (level - 1) table i x (subst (λ l. Reached u l table) (sym up) (more_reached v u level table (entry_came table i x new v u x m) at)) (entry_found table i x new o v u x came m)
      (subst (λ (p : Post). is_unmapped p.machine x ≡ false) (came_post o v came) mapped)

  none_mapped : (v w : PortValue) (table i x new found level : ℕ) → Came o v → Reached v level table → EntryMoves v w table i x new found → is_unmapped v.post.machine x ≡ true → 1 ≤ level → level ≤ 4 →
      Stops o w r (Refused (NotMapped level x))
  unfolding Stops
  none_mapped v w table i x new found level came at m none low high =
      inr (low, omega arith, walks, (table, i, more_reached v w level table (entry_came table i x new v w found m) at, entry_found table i x new o v w found came m, subst (λ (p : Post). IsTrue (is_unmapped p.machine x)) (came_post o v came) none))

  ends_stop : (v w : PortValue) (table i level : ℕ) (b : Option ℕ) (x new found : ℕ) (e : Stop) → Came o v → IsAsked o.post.machine o.post.vcpu r (Met o v) table → Reached v level table → 1 ≤ level → level ≤ 4 →
      EntryMoves v w table i x new found → EndsAt v.post.machine table i level b x new found (Err e) → Stops o w r e
  ends_stop v w table i level b x new found (Refused (NotMapped l e)) came asked on low high m (is, at, none, met) =
      subst (λ j. Stops o w r (Refused (NotMapped l j))) (sym at) (subst (λ j. Stops o w r (Refused (NotMapped j x))) (sym is) (none_mapped v w table i x new found level came on m none low high))
  ends_stop v w table i level b x new found (Paused (Lost place e y)) came asked on low high m (there, at, is, bit, off, other) =
      subst (λ j. Stops o w r (Paused (Lost place j y))) (sym at) (subst (λ j. Stops o w r (Paused (Lost place x j))) (sym is) (entry_lost v w table i x new found place came asked m other there))
  ends_stop v w table i level b x new found _ came asked on low high m a = absurd a

  pub path_stops : (w : PortValue) (va : ℕ) (write : Bool) (e : Stop) (v : PortValue) (level table : ℕ) (b : Option ℕ) → Came o v → IsAsked o.post.machine o.post.vcpu r (Met o v) table → Reached v level table → 1 ≤ level → level ≤ 4 →
      PathMoves w va write (Err e) v level table b → Stops o w r e
  path_stops w va write e v level table b came asked on low high (ends _ _ _ _ x found m a) = ends_stop v w table (index_of va level) level (barrier_with b x) x _ found e came asked on low high m a
  path_stops w va write e v level table b came asked on low high (goes _ u _ _ _ x more mapped m rest) =
      path_stops w va write e u (level - 1) (frame_of x) (barrier_with b x) (came_trans o v u came (entry_came table (index_of va level) x _ v u x m)) (below_asked r walks o v u table (index_of va level) x _ came m)
      (below_reached v u level table (index_of va level) x _ came on more mapped m) (omega arith) (omega arith) rest

-- which stops there are
ends_kind : (n : Machine) (table i level : ℕ) (b : Option ℕ) (x new found : ℕ) (e : Stop) → EndsAt n table i level b x new found (Err e) → IsWalkStop e
ends_kind n table i level b x new found (Refused (NotMapped l e)) a = tt
ends_kind n table i level b x new found (Paused (Lost place e y)) a = tt
ends_kind n table i level b x new found _ a = absurd a

pub path_kind : (w : PortValue) (va : ℕ) (write : Bool) (e : Stop) (v : PortValue) (level table : ℕ) (b : Option ℕ) → PathMoves w va write (Err e) v level table b → IsWalkStop e
path_kind w va write e v level table b (ends _ _ _ _ x found m a) = ends_kind v.post.machine table (index_of va level) level (barrier_with b x) x _ found e a
path_kind w va write e v level table b (goes _ u _ _ _ x more mapped m rest) = path_kind w va write e u (level - 1) (frame_of x) (barrier_with b x) rest

-- ---- what it found of entries
module _ (o : PortValue) where
  -- that entry was found, and its bit 1 is 0
  abbrev pub Barred : PortValue → ℕ → Type 0
  Barred w e = (t : ℕ) × (i : ℕ) × FoundAt (Met o w) (Cell t i) e × (is_bit 1 e ≡ false)

  barred_later : (v w : PortValue) (e : ℕ) → Came v w → Barred v e → Barred w e
  barred_later v w e came (t, i, found, bit) = (t, i, found_before o v w (Cell t i) e came found, bit)

  barred_by : (w : PortValue) (t i x e : ℕ) (c : Bool) → is_bit 1 x ≡ c → FoundAt (Met o w) (Cell t i) x → (if c then None else Some x) ≡ Some e → Barred w e
  barred_by w t i x e true is found at = absurd cc
  barred_by w t i x e false is found at = let same : x ≡ e = cc in (t, i, subst (λ y. FoundAt (Met o w) (Cell t i) y) same found, ap (is_bit 1) (sym same) ∙ is)

  barred_with : (w : PortValue) (t i x e : ℕ) (b : Option ℕ) → FoundAt (Met o w) (Cell t i) x → ((y : ℕ) → b ≡ Some y → Barred w y) → barrier_with b x ≡ Some e → Barred w e
  barred_with w t i x e (Some z) found before at = before e at
  barred_with w t i x e None found before at = barred_by w t i x e (is_bit 1 x) refl found at

  pub path_barrier : (w : PortValue) (va : ℕ) (write : Bool) (r : Walked) (v : PortValue) (level table : ℕ) (b : Option ℕ) (e : ℕ) → Came o v → ((y : ℕ) → b ≡ Some y → Barred v y) → r.barrier ≡ Some e →
      PathMoves w va write (Ok r) v level table b → Barred w e
  path_barrier w va write r v level table b e came before at (ends _ _ _ _ x found m (last, mapped, met, entry, barrier)) =
      let i = index_of va level in
      barred_with w table i x e b (entry_found table i x _ o v w found came m) (λ y is. barred_later v w y (entry_came table i x _ v w found m) (before y is)) (sym barrier ∙ at)
  path_barrier w va write r v level table b e came before at (goes _ u _ _ _ x more mapped m rest) =
      let i = index_of va level in
      let next = entry_came table i x _ v u x m in
      path_barrier w va write r u (level - 1) (frame_of x) (barrier_with b x) e (came_trans o v u came next)
      (λ y is. barred_with u table i x y b (entry_found table i x _ o v u x came m) (λ z at. barred_later v u z next (before z at)) is) at rest

  -- the last entry was found
  pub path_last : (w : PortValue) (va : ℕ) (write : Bool) (r : Walked) (v : PortValue) (level table : ℕ) (b : Option ℕ) → Came o v → PathMoves w va write (Ok r) v level table b →
      (t : ℕ) × (i : ℕ) × FoundAt (Met o w) (Cell t i) r.entry
  path_last w va write r v level table b came (ends _ _ _ _ x found m (last, mapped, met, entry, barrier)) =
      (table, index_of va level, subst (λ y. FoundAt (Met o w) (Cell table (index_of va level)) y) (sym entry) (entry_found table (index_of va level) x _ o v w found came m))
  path_last w va write r v level table b came (goes _ u _ _ _ x more mapped m rest) =
      path_last w va write r u (level - 1) (frame_of x) (barrier_with b x) (came_trans o v u came (entry_came table (index_of va level) x _ v u x m)) rest
