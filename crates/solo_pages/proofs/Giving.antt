-- A type that is given back of a frame that holds no entries, by its steps as by the plain function.
use Rattle.std.proofs.Common.{◌≡◌, ℕ, ◌-◌, ◌<◌, ◌^◌, ◌==◌, ◌&&◌, not, if◌then◌else◌, Bool, true, false, None, IsTrue, refl, sym, ap, ◌∙◌, subst, arith}
use Rattle.std.proofs.lemmas.Bool.Decides.{nat_tests}
use Rattle.xp_words.specs.KindWords.{kind_fields}
use Rattle.xp_words.specs.Machine.{Machine}
use Rattle.xp_words.specs.PageTypes.{is_none}
use Rattle.xp_words.specs.declared.kind.KindWord.{KindWord}
use Rattle.xp_words.specs.declared.kind.PageType.{PageType}
use Rattle.xp_words.specs.declared.kind.PageType.TheVariants as kinds
use Rattle.xp_words.specs.declared.place.Place.TheVariants.{Kind}
use Rattle.xp_board.specs.KindSteps.{resumed_kind}
use Rattle.xp_board.specs.RefSteps.{one_down}
use Rattle.xp_board.specs.Told.{Post, PortValue, is_telling, told_word}
use Rattle.xp_board.specs.declared.step.Act.TheVariants.{Add}
use Rattle.step_maker.specs.Plain.{Leaves, Words}
use Rattle.step_maker.specs.Visits.{Does, Only, Then, Where, visit}
use Rattle.step_maker.proofs.Coming.{came_post}
use Rattle.step_maker.proofs.Parts.{stayed as does_none, parts as does_parts}
use Rattle.step_maker.proofs.Telling.{came_telling, leaves, told_there}
use Rattle.step_maker.proofs.Visiting.{does_came}
use Rattle.frame_words.specs.Freeing.{PutBy}
use Rattle.frame_words.specs.Plain.{put}
use Rattle.kind_words.specs.Kinds.{dead_kind}
use Rattle.frame_types.specs.Found.{Dies, DropsPlain}
use Rattle.table_law.specs.Levels.{closed, closed_as}
use Rattle.table_law.specs.Plain.{Describes, Plain, with_kind}
use Rattle.table_law.specs.Release.{count_back, drop_kind, emptying, is_counted_on, let_go, keeps_mark}
use Rattle.table_twins.proofs.Entering.{described_leaves}
use Rattle.table_releases.specs.Plain.{lowered_type}
use Rattle.release_laws.proofs.Parts.{does_only, does_with}
use Rattle.release_laws.proofs.Seen.{IsCounted, drops_seen, kind_sum, put_seen}
use Rattle.release_laws.proofs.Words.{live_there, lowered_words, put_words}
use Rattle.release_laws.proofs.Putting.{dead_words, puts_words}
use Rattle.release_laws.proofs.Dropping.{last_counted, more_counted}
use Rattle.solo_pages.specs.Shown.{AreWhole, IsWholeKind, SameBeside}
use Rattle.solo_pages.proofs.Steps.{at_drops, does_beside}
use Rattle.solo_pages.proofs.Whole.{dead_whole, kinded_whole}

-- ---- the plain function
abbrev pub given : ℕ → PageType → Plain → Plain
given g t p = drop_kind (λ k q. q) g t p (p.kinds g)

live_emptying : (k : KindWord) → k.validated ≡ true → (k.number == 1) ≡ true → record k { number = k.number - 1 } ≡ emptying k
live_emptying k live one =
    let e : 0 ≡ k.number - 1 = grind (arith, nat_tests) in
    sym (ap (λ b. if not b && k.partial then resumed_kind k else record k { number = 0 }) live ∙ ap (λ j. record k { number = j }) e)

module _ (g : ℕ) (t : PageType) (p : Plain) where
  pub given_more : is_counted_on (p.kinds g) ≡ true → given g t p ≡ count_back g (p.kinds g) p
  given_more many = ap (λ b. if b then count_back g (p.kinds g) p else closed_as (keeps_mark (p.kinds g)) g t (with_kind g (emptying (p.kinds g)) p)) many

  pub given_last : is_counted_on (p.kinds g) ≡ false → given g t p ≡ closed_as (keeps_mark (p.kinds g)) g t (with_kind g (emptying (p.kinds g)) p)
  given_last last = ap (λ b. if b then count_back g (p.kinds g) p else closed_as (keeps_mark (p.kinds g)) g t (with_kind g (emptying (p.kinds g)) p)) last

  live_last : is_counted_on (p.kinds g) ≡ false → (p.kinds g).validated ≡ true → given g t p ≡ closed g t (with_kind g (emptying (p.kinds g)) p)
  live_last last live =
      given_last last
      ∙ ap (λ u. closed_as u g t (with_kind g (emptying (p.kinds g)) p)) (ap (λ b. not b && (p.kinds g).partial && (p.kinds g).unflushed) live)

-- ---- the steps
module _ (n : Machine) (v w : PortValue) (g : ℕ) (t : PageType) (p : Plain) (same : v.post.machine ≡ n) (telling : is_telling v ≡ true) (d : Describes n (told_word v) p) (typed : IsTrue (not (is_none t))) (drops : DropsPlain v w g t) where
  abbrev m : Words
  m = told_word v

  seen : IsCounted v g
  seen = (drops_seen v w g t telling drops).1

  inside : g < n.frames
  inside = subst (λ (k : Machine). g < k.frames) same seen.inside

  -- behind one type count less
  module _ (x : ℕ) (u : PortValue) (at : m (Kind g) ≡ x) (live : (kind_fields x).validated ≡ true) (some : 0 < (kind_fields x).number) (machine : u.post.machine ≡ n) (still : is_telling u ≡ true) (lower : Leaves u (lowered_type g m))
      (low : Describes n (told_word u) (with_kind g (record (p.kinds g) { number = (p.kinds g).number - 1 }) p)) where
    is : p.kinds g ≡ kind_fields x
    is = live_there n m p g d inside (ap (λ y. (kind_fields y).validated) at ∙ live) ∙ ap kind_fields at

    rest : (b : Bool) → ((kind_fields x).number == 1) ≡ b → Does u w (Then (Where b (Dies g t false)) (PutBy g)) → Describes n (told_word w) (given g t p)
    rest true one a =
        let last = ap is_counted_on is ∙ last_counted (kind_fields x) one in
        let empty : record (p.kinds g) { number = (p.kinds g).number - 1 } ≡ emptying (p.kinds g) = live_emptying (p.kinds g) (ap (λ (k : KindWord). k.validated) is ∙ live) (ap (λ (k : KindWord). k.number == 1) is ∙ one) in
        subst (Describes n (told_word w)) (sym (live_last g t p last (ap (λ (k : KindWord). k.validated) is ∙ live)))
        (subst (λ k. Describes n (told_word w) (closed g t (with_kind g k p))) empty
        (dead_words n u w (with_kind g (record (p.kinds g) { number = (p.kinds g).number - 1 }) p) g t machine still low inside typed a))
    rest false not_last a =
        let parts = does_parts u w (Where false (Dies g t false)) (PutBy g) a in
        let stays = does_none u parts.0 parts.1 in
        let puts = subst (λ (y : PortValue). Does y w (PutBy g)) stays parts.2 in
        let many = ap is_counted_on is ∙ more_counted (kind_fields x) live some not_last in
        subst (Describes n (told_word w)) (sym (given_more g t p many))
        (described_leaves n w (put g (told_word u)) (count_back g (p.kinds g) p) (puts_words u w g still puts)
        (put_words n (told_word u) (with_kind g (record (p.kinds g) { number = (p.kinds g).number - 1 }) p) g low inside (put_seen u w g still puts).some))

  given_by_steps : Describes n (told_word w) (given g t p)
  given_by_steps =
      let x = does_with v w _ drops in
      let parts = does_parts v w (Only (visit (Kind g) (Add one_down) x.0)) (Then (Where ((kind_fields x.0).number == 1) (Dies g t false)) (PutBy g)) x.1 in
      let u = parts.0 in
      let s = does_only v u (visit (Kind g) (Add one_down) x.0) parts.1 in
      let f = kind_sum v u g x.0 s.0 s.1 in
      let at = told_there v u (Kind g) (Add one_down) s.0 None x.0 s.1 telling in
      let lower : Leaves u (lowered_type g m) = leaves v u (Kind g) (Add one_down) s.0 None x.0 s.1 telling in
      let came = does_came v u _ parts.1 in
      let low = described_leaves n u (lowered_type g m) (with_kind g (record (p.kinds g) { number = (p.kinds g).number - 1 }) p) lower
      (lowered_words n m p g d inside (ap (λ y. (kind_fields y).validated) at ∙ f.live) (subst (λ y. y < 2 ^ 64) (sym at) f.small) (subst (λ y. 0 < (kind_fields y).number) (sym at) f.some)) in
      rest x.0 u at f.live f.some (ap (λ (o : Post). o.machine) (came_post v u came) ∙ same) (came_telling v u came ∙ telling) lower low ((kind_fields x.0).number == 1) refl parts.2

  -- what it leaves
  pub record GaveBack : Type 0 where
    pub frames : Describes n (told_word w) (given g t p)
    pub beside : SameBeside (told_word v) (told_word w)
    pub inside : g < n.frames
    pub live : (p.kinds g).validated ≡ true

  pub gave_back : GaveBack
  gave_back =
      let x = does_with v w _ drops in
      let parts = does_parts v w (Only (visit (Kind g) (Add one_down) x.0)) (Then (Where ((kind_fields x.0).number == 1) (Dies g t false)) (PutBy g)) x.1 in
      let s = does_only v parts.0 (visit (Kind g) (Add one_down) x.0) parts.1 in
      let f = kind_sum v parts.0 g x.0 s.0 s.1 in
      let at = told_there v parts.0 (Kind g) (Add one_down) s.0 None x.0 s.1 telling in
      let live : (kind_fields (m (Kind g))).validated ≡ true = ap (λ y. (kind_fields y).validated) at ∙ f.live in
      record { frames = given_by_steps; beside = does_beside v w _ (at_drops g t) drops; inside = inside; live = ap (λ (k : KindWord). k.validated) (live_there n m p g d inside live) ∙ live }

-- ---- of a whole value it leaves a whole one
lower_whole : (k : KindWord) → IsWholeKind k → is_counted_on k ≡ true → IsWholeKind (record k { number = k.number - 1 })
lower_whole k is many = record { unkept = is.unkept; formed = is.formed; counted = λ live. grind (arith, nat_tests) }

whole_by : (n : Machine) (g : ℕ) (t : PageType) (p : Plain) (b : Bool) → is_counted_on (p.kinds g) ≡ b → (g < n.frames) → AreWhole n p → AreWhole n (given g t p)
whole_by n g t p true many within whole = subst (AreWhole n) (sym (given_more g t p many)) (kinded_whole n g (record (p.kinds g) { number = (p.kinds g).number - 1 }) p (lower_whole (p.kinds g) (whole g within) many) whole)
whole_by n g t p false last within whole = subst (AreWhole n) (sym (given_last g t p last)) closing
  where
    by : (b : Bool) (k : KindWord) (old : KindWord) → IsWholeKind old → IsWholeKind (if b then dead_kind t (keeps_mark (p.kinds g)) 0 else (if b then k else old))
    by true k old old_is = dead_whole t (keeps_mark (p.kinds g))
    by false k old old_is = old_is

    closing : AreWhole n (closed_as (keeps_mark (p.kinds g)) g t (with_kind g (emptying (p.kinds g)) p))
    closing h low = by (h == g) (emptying (p.kinds g)) (p.kinds h) (whole h low)

pub given_whole : (n : Machine) (g : ℕ) (t : PageType) (p : Plain) → g < n.frames → AreWhole n p → AreWhole n (given g t p)
given_whole n g t p inside whole = whole_by n g t p (is_counted_on (p.kinds g)) refl inside whole

pub let_go_is : (g : ℕ) (p : Plain) → let_go 0 g p ≡ given g kinds.Writable p
unfolding let_go
let_go_is g p = refl
