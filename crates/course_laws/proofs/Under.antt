-- An acquisition under way, on the plain value that has all its tables in work and nothing lent.
use Rattle.std.proofs.Common.{◌≡◌, ◌≢◌, ◌⊎◌, ℕ, ◌+◌, ◌-◌, ◌<◌, ◌≤◌, ◌==◌, if◌then◌else◌, Bool, true, false, List, [], ◌∷◌, Option, Some, None, IsTrue, refl, sym, ap, ◌∙◌, subst, inl, inr, arith}
use Rattle.std.proofs.lemmas.Bool.Decides.{nat_tests}
use Rattle.xp_words.specs.Entries.{demand_at}
use Rattle.xp_words.specs.Machine.{Machine}
use Rattle.xp_words.specs.KindWords.{is_kind, kind_fields, kind_write}
use Rattle.xp_words.specs.declared.place.Place.TheVariants.{Kind}
use Rattle.xp_board.specs.Acts.{left_by}
use Rattle.step_maker.specs.Twins.{Alike, IsAlikeKind}
use Rattle.frame_types.specs.Plain.{set_kind}
use Rattle.kind_words.proofs.KindWriting.{fields_write}
use Rattle.xp_words.specs.declared.entry.Demand.TheVariants.{Typed}
use Rattle.xp_words.specs.declared.kind.KindWord.{KindWord}
use Rattle.xp_board.specs.Readings.{is_dead, kind_at}
use Rattle.step_maker.specs.Plain.{Words}
use Rattle.kind_words.specs.Kinds.{work_kind}
use Rattle.kind_words.proofs.Leaving.{number_small as small_number}
use Rattle.partial_state.specs.Levels.{level_type}
use Rattle.partial_state.proofs.LevelFacts.{level_type-apart}
use Rattle.partial_state.specs.declared.stack.TableWork.{TableWork}
use Rattle.table_law.specs.Alone.{PlainOutcome}
use Rattle.table_law.specs.Lawful.{share_count}
use Rattle.table_law.specs.Levels.{entry_of}
use Rattle.table_law.specs.Plain.{Describes, Plain, Share, sober}
use Rattle.table_law.specs.Stack.{rest}
use Rattle.table_law.proofs.Describing.{sober_dead, sober_live}
use Rattle.table_twins.proofs.Typing.{live_sober}
use Rattle.course_laws.proofs.Frames.{IsAbove, IsAside, IsFrame, IsLiveWithin, IsWork, count_at, renumbered}
use Rattle.course_laws.proofs.Stacking.{lefts}
use Rattle.course_laws.proofs.Extras.{lent, more_count}

-- it is the frame of one of these tables
abbrev pub IsIn : List TableWork → ℕ → Type 0
IsIn [] g = ⊥
IsIn (t ∷ ts) g = (t.frame ≡ g) ⊎ IsIn ts g

-- dead, or live with type counts, of which each is a reference
abbrev pub IsStill : KindWord → ℕ → Type 0
IsStill k count = (is_dead k ≡ true) ⊎ IsLiveWithin k count

abbrev pub count_of : Plain → ℕ → ℕ
count_of p g = share_count (p.shares g)

abbrev pub PlainFrames : Machine → Plain → List TableWork → Type 0
PlainFrames n p ts = (g : ℕ) → g < n.frames → IsStill (p.kinds g) (count_of p g) ⊎ IsIn ts g

-- a table in work, with a reference of the owner
pub record TableOf (n : Machine) (owner : ℕ) (p : Plain) (t : TableWork) : Type 0 where
  pub inside : t.frame < n.frames
  pub share : Share
  pub was : p.shares t.frame ≡ Some share
  pub owns : (share.owner == owner) ≡ true
  pub some : 0 < share.count
  pub work : p.kinds t.frame ≡ work_kind (level_type t.level) false 0
  pub low : 1 ≤ t.level
  pub high : t.level ≤ 4
  pub few : t.done ≤ 512

-- each below the ones around it
abbrev pub PlainTables : Machine → ℕ → Plain → List TableWork → Type 0
PlainTables n owner p [] = Unit {0}
PlainTables n owner p (t ∷ ts) = TableOf n owner p t × IsAbove t.level ts × PlainTables n owner p ts

-- each is what the last entry of the next asks that is done with
abbrev pub IsNamed : Plain → TableWork → TableWork → Type 0
IsNamed p t o = (o.level ≡ t.level + 1) × (0 < o.done) × (entry_of p (level_type o.level) o.frame (o.done - 1) ≡ Typed t.frame (level_type t.level))

abbrev pub Chained : Plain → List TableWork → Type 0
Chained p [] = Unit {0}
Chained p (t ∷ []) = Unit {0}
Chained p (t ∷ o ∷ ts) = IsNamed p t o × Chained p (o ∷ ts)

-- all that is left to do comes to a
pub record Under (n : Machine) (owner : ℕ) (p : Plain) (ts : List TableWork) (a : PlainOutcome) : Type 0 where
  pub frames : PlainFrames n p ts
  pub tables : PlainTables n owner p ts
  pub chain : Chained p ts
  pub ahead : rest n owner (lefts ts) p ≡ a

-- ---- another value
-- no share is lost, and no count became less
pub record Grew (s : Share) (o : Option Share) : Type 0 where
  pub share : Share
  pub is : o ≡ Some share
  pub owner : share.owner ≡ s.owner
  pub more : s.count ≤ share.count

abbrev pub IsGrown : Plain → Plain → Type 0
IsGrown p q = (h : ℕ) (s : Share) → p.shares h ≡ Some s → Grew s (q.shares h)

-- the kinds are those of before, but of one frame
abbrev pub IsKindBut : ℕ → Plain → Plain → Type 0
IsKindBut g p q = (h : ℕ) → h ≢ g → q.kinds h ≡ p.kinds h

abbrev pub IsOff : List TableWork → ℕ → Type 0
IsOff [] g = Unit {0}
IsOff (t ∷ ts) g = (t.frame ≢ g) × IsOff ts g

pub same_grown : (p q : Plain) → ((h : ℕ) → q.shares h ≡ p.shares h) → IsGrown p q
same_grown p q same h s is = record { share = s; is = same h ∙ is; owner = refl; more = omega arith }

count_grown : (p q : Plain) (h : ℕ) (o : Option Share) → p.shares h ≡ o → ((s : Share) → o ≡ Some s → Grew s (q.shares h)) → count_of p h ≤ count_of q h
count_grown p q h None is grown = let e = ap share_count is in omega arith
count_grown p q h (Some s) is grown = let b = grown s refl in let e = ap share_count is in let k = ap share_count b.is in let more = b.more in omega arith

pub grown_count : (p q : Plain) (h : ℕ) → IsGrown p q → count_of p h ≤ count_of q h
grown_count p q h grown = count_grown p q h (p.shares h) refl (λ s is. grown h s is)

pub still_more : (k : KindWord) (c d : ℕ) → c ≤ d → IsStill k c → IsStill k d
still_more k c d more (inl dead) = inl dead
still_more k c d more (inr live) = inr (record { live = live.live; some = live.some; within = (let low = live.within in omega arith) })

pub chained_cells : (p q : Plain) (ts : List TableWork) → ((g i : ℕ) → q.cells g i ≡ p.cells g i) → Chained p ts → Chained q ts
chained_cells p q [] same c = tt
chained_cells p q (t ∷ []) same c = tt
chained_cells p q (t ∷ o ∷ ts) same c =
    ((c.0.0, c.0.1, ap (λ w. demand_at (level_type o.level) (o.done - 1) w) (same o.frame (o.done - 1)) ∙ c.0.2), chained_cells p q (o ∷ ts) same c.1)

module _ (n : Machine) (owner : ℕ) (p q : Plain) (g : ℕ) (grown : IsGrown p q) (but : IsKindBut g p q) where
  frames_by : (ts us : List TableWork) (b : Bool) (h : ℕ) → (h == g) ≡ b → ((h : ℕ) → h ≢ g → IsIn ts h → IsIn us h) → IsStill (q.kinds g) (count_of q g) ⊎ IsIn us g → IsStill (p.kinds h) (count_of p h) ⊎ IsIn ts h →
      IsStill (q.kinds h) (count_of q h) ⊎ IsIn us h
  frames_by ts us true h is others here was = let e : h ≡ g = grind (arith, nat_tests) in subst (λ i. IsStill (q.kinds i) (count_of q i) ⊎ IsIn us i) (sym e) here
  frames_by ts us false h is others here (inl still) =
      let off : h ≢ g = grind (arith, nat_tests) in
      inl (subst (λ k. IsStill k (count_of q h)) (sym (but h off)) (still_more (p.kinds h) (count_of p h) (count_of q h) (grown_count p q h grown) still))
  frames_by ts us false h is others here (inr one) = inr (others h (grind (arith, nat_tests)) one)

  pub frames_but : (ts us : List TableWork) → ((h : ℕ) → h ≢ g → IsIn ts h → IsIn us h) → IsStill (q.kinds g) (count_of q g) ⊎ IsIn us g → PlainFrames n p ts → PlainFrames n q us
  frames_but ts us others here frames h inside = frames_by ts us (h == g) h refl others here (frames h inside)

  table_but : (t : TableWork) → t.frame ≢ g → TableOf n owner p t → TableOf n owner q t
  table_but t off is =
      let b = grown t.frame is.share is.was in
      record {
        inside = is.inside;
        share = b.share;
        was = b.is;
        owns = ap (λ o. o == owner) b.owner ∙ is.owns;
        some = (let some = is.some in let more = b.more in omega arith);
        work = but t.frame off ∙ is.work;
        low = is.low;
        high = is.high;
        few = is.few;
      }

  pub tables_but : (ts : List TableWork) → IsOff ts g → PlainTables n owner p ts → PlainTables n owner q ts
  tables_but [] off all = tt
  tables_but (t ∷ ts) off all = (table_but t off.0 all.0, all.1, tables_but ts off.1 all.2)

-- ---- a frame that no table is
module _ (n : Machine) (owner : ℕ) (p : Plain) (g : ℕ) where
  not_work : (count l : ℕ) → IsStill (p.kinds g) count → p.kinds g ≡ work_kind (level_type l) false 0 → ⊥
  not_work count l (inl dead) is = let e : is_dead (work_kind (level_type l) false 0) ≡ true = sym (ap is_dead is) ∙ dead in cc
  not_work count l (inr live) is = let e : (work_kind (level_type l) false 0).validated ≡ true = sym (ap (λ (k : KindWord). k.validated) is) ∙ live.live in cc

  pub still_off : (count : ℕ) (ts : List TableWork) → IsStill (p.kinds g) count → PlainTables n owner p ts → IsOff ts g
  still_off count [] still all = tt
  still_off count (t ∷ ts) still all = (λ e. not_work count t.level still (sym (ap p.kinds e) ∙ all.0.work), still_off count ts still all.2)

  pub above_off : (l : ℕ) (ts : List TableWork) → l ≤ 4 → p.kinds g ≡ work_kind (level_type l) false 0 → IsAbove l ts → PlainTables n owner p ts → IsOff ts g
  above_off l [] few work above all = tt
  above_off l (t ∷ ts) few work above all = (
    λ e. let same : level_type l ≡ level_type t.level = ap (λ (k : KindWord). k.kind) (sym work ∙ (sym (ap p.kinds e) ∙ all.0.work)) in let k = level_type-apart l t.level few above.1 same in let low = above.0 in absurd (omega arith),
    above_off l ts few work above.2 all.2,
  )

pub in_off : (ts : List TableWork) (g : ℕ) → IsOff ts g → IsIn ts g → ⊥
in_off [] g off one = one
in_off (t ∷ ts) g off (inl is) = off.0 is
in_off (t ∷ ts) g off (inr one) = in_off ts g off.1 one

-- ---- what the words say of a frame
stored_at : (g h : ℕ) (new : KindWord) (m : Words) → (h == g) ≡ true → set_kind g new m (Kind h) ≡ kind_write new
unfolding left_by
stored_at g h new m is = ap (λ b. if b then kind_write new else m (Kind h)) is

stored_off : (g h : ℕ) (new : KindWord) (m : Words) → (h == g) ≡ false → set_kind g new m (Kind h) ≡ m (Kind h)
unfolding left_by
stored_off g h new m is = ap (λ b. if b then kind_write new else m (Kind h)) is

-- the kind words of dead and of live frames are spellings
abbrev pub Spelled : Machine → Words → Plain → Type 0
Spelled n m p = (g : ℕ) → g < n.frames → (is_dead (p.kinds g) ≡ true) ⊎ ((p.kinds g).validated ≡ true) → IsTrue (is_kind (kind_at m g))

spelled_by : (w y : ℕ) → (w ≡ y) ⊎ IsAlikeKind (kind_fields w) (kind_fields y) → (is_dead (kind_fields y) ≡ true) ⊎ ((kind_fields y).validated ≡ true) → IsTrue (is_kind (kind_fields y)) → IsTrue (is_kind (kind_fields w))
spelled_by w y (inl same) out is = subst (λ z. IsTrue (is_kind (kind_fields z))) (sym same) is
spelled_by w y (inr alike) (inl dead) is =
    renumbered (kind_fields w) (kind_fields y).number (small_number w) (sym (ap is_dead alike.1) ∙ dead) (subst (λ k. IsTrue (is_kind k)) alike.1 is)
spelled_by w y (inr alike) (inr live) is = absurd (let e : (kind_fields w).validated ≡ true = sym (ap (λ (k : KindWord). k.validated) alike.1) ∙ live in let off = alike.0 in cc)

out_there : (k l : KindWord) → l ≡ sober k → (is_dead l ≡ true) ⊎ (l.validated ≡ true) → (is_dead k ≡ true) ⊎ (k.validated ≡ true)
out_there k l is (inl dead) = inl (sym (sober_dead k) ∙ (sym (ap is_dead is) ∙ dead))
out_there k l is (inr live) = inr (sym (sober_live k) ∙ (sym (ap (λ (j : KindWord). j.validated) is) ∙ live))

module _ (n : Machine) (m x : Words) (p q : Plain) (kinds : (h : ℕ) → h < n.frames → p.kinds h ≡ sober (kind_at m h)) (spelled : Spelled n m p) where
  pub spelled_same : Alike x m → ((h : ℕ) → q.kinds h ≡ p.kinds h) → Spelled n x q
  spelled_same alike same h inside out =
      let was = subst (λ k. (is_dead k ≡ true) ⊎ (k.validated ≡ true)) (same h) out in
      spelled_by (x (Kind h)) (m (Kind h)) (alike (Kind h)) (out_there (kind_at m h) (p.kinds h) (kinds h inside) was) (spelled h inside was)

  module _ (g : ℕ) (new : KindWord) (alike : Alike x (set_kind g new m)) (is : IsTrue (is_kind new)) (out_new : (is_dead new ≡ true) ⊎ (new.validated ≡ true)) (but : IsKindBut g p q) where
    set_by : (b : Bool) (h : ℕ) → (h == g) ≡ b → h < n.frames → (is_dead (q.kinds h) ≡ true) ⊎ ((q.kinds h).validated ≡ true) → IsTrue (is_kind (kind_at x h))
    set_by true h same inside out =
        let e : h ≡ g = grind (arith, nat_tests) in
        let written = fields_write new is in
        let at : set_kind g new m (Kind h) ≡ kind_write new = stored_at g h new m same in
        spelled_by (x (Kind h)) (kind_write new) (subst (λ w. (x (Kind h) ≡ w) ⊎ IsAlikeKind (kind_fields (x (Kind h))) (kind_fields w)) at (alike (Kind h)))
        (subst (λ k. (is_dead k ≡ true) ⊎ (k.validated ≡ true)) (sym written) out_new) (subst (λ k. IsTrue (is_kind k)) (sym written) is)
    set_by false h same inside out =
        let off : h ≢ g = grind (arith, nat_tests) in
        let was = subst (λ k. (is_dead k ≡ true) ⊎ (k.validated ≡ true)) (but h off) out in
        let at : set_kind g new m (Kind h) ≡ m (Kind h) = stored_off g h new m same in
        spelled_by (x (Kind h)) (m (Kind h)) (subst (λ w. (x (Kind h) ≡ w) ⊎ IsAlikeKind (kind_fields (x (Kind h))) (kind_fields w)) at (alike (Kind h)))
        (out_there (kind_at m h) (p.kinds h) (kinds h inside) was) (spelled h inside was)

    pub spelled_set : Spelled n x q
    spelled_set h inside out = set_by (h == g) h refl inside out

  -- where the new one is neither dead nor live
  module _ (g : ℕ) (new : KindWord) (alike : Alike x (set_kind g new m)) (other : (is_dead (q.kinds g) ≡ true) ⊎ ((q.kinds g).validated ≡ true) → ⊥) (but : IsKindBut g p q) where
    work_by : (b : Bool) (h : ℕ) → (h == g) ≡ b → h < n.frames → (is_dead (q.kinds h) ≡ true) ⊎ ((q.kinds h).validated ≡ true) → IsTrue (is_kind (kind_at x h))
    work_by true h same inside out = let e : h ≡ g = grind (arith, nat_tests) in absurd (other (subst (λ i. (is_dead (q.kinds i) ≡ true) ⊎ ((q.kinds i).validated ≡ true)) e out))
    work_by false h same inside out =
        let off : h ≢ g = grind (arith, nat_tests) in
        let was = subst (λ k. (is_dead k ≡ true) ⊎ (k.validated ≡ true)) (but h off) out in
        let at : set_kind g new m (Kind h) ≡ m (Kind h) = stored_off g h new m same in
        spelled_by (x (Kind h)) (m (Kind h)) (subst (λ w. (x (Kind h) ≡ w) ⊎ IsAlikeKind (kind_fields (x (Kind h))) (kind_fields w)) at (alike (Kind h)))
        (out_there (kind_at m h) (p.kinds h) (kinds h inside) was) (spelled h inside was)

    pub spelled_other : Spelled n x q
    spelled_other h inside out = work_by (h == g) h refl inside out

module _ (n : Machine) (owner : ℕ) (m : Words) (x : ℕ → ℕ) (p : Plain) (ts : List TableWork) (d : Describes n m (lent x p)) (spelled : Spelled n m p) (tables : PlainTables n owner p ts) where
  count_there : (g : ℕ) → g < n.frames → count_of p g ≤ count_at m g
  count_there g inside = let e = ap share_count (d.shares g inside) in let k = more_count (x g) (p.shares g) in omega arith

  pub live_there : (g : ℕ) → g < n.frames → IsLiveWithin (p.kinds g) (count_of p g) → IsLiveWithin (kind_at m g) (count_at m g)
  live_there g inside live =
      let k = kind_at m g in
      let on : k.validated ≡ true = sym (sober_live k) ∙ (sym (ap (λ (j : KindWord). j.validated) (d.kinds g inside)) ∙ live.live) in
      let number : (p.kinds g).number ≡ k.number = ap (λ (j : KindWord). j.number) (d.kinds g inside ∙ live_sober k on) in
      let low = count_there g inside in
      record { live = on; some = (let s = live.some in omega arith); within = (let s = live.within in omega arith) }

  pub dead_there : (g : ℕ) → g < n.frames → is_dead (p.kinds g) ≡ true → is_dead (kind_at m g) ≡ true
  dead_there g inside dead = sym (sober_dead (kind_at m g)) ∙ (sym (ap is_dead (d.kinds g inside)) ∙ dead)

  pub still_aside : (g : ℕ) → g < n.frames → IsStill (p.kinds g) (count_of p g) → IsAside (kind_at m g) (count_at m g)
  still_aside g inside (inl dead) = record { spelled = spelled g inside (inl dead); stands = inl (dead_there g inside dead) }
  still_aside g inside (inr live) = record { spelled = spelled g inside (inr live.live); stands = inr (live_there g inside live) }

  pub in_work : (us : List TableWork) (g : ℕ) → g < n.frames → PlainTables n owner p us → IsIn us g → IsWork (kind_at m g) us g
  in_work [] g inside all one = one
  in_work (t ∷ us) g inside all (inl is) = inl (is, sym (d.kinds g inside) ∙ (sym (ap p.kinds is) ∙ all.0.work))
  in_work (t ∷ us) g inside all (inr one) = inr (in_work us g inside all.2 one)

  frame_by : (g : ℕ) → g < n.frames → IsStill (p.kinds g) (count_of p g) ⊎ IsIn ts g → IsFrame (kind_at m g) (count_at m g) ts g
  frame_by g inside (inl still) = inl (still_aside g inside still)
  frame_by g inside (inr one) = inr (in_work ts g inside tables one)

  pub frame_there : PlainFrames n p ts → (g : ℕ) → g < n.frames → IsFrame (kind_at m g) (count_at m g) ts g
  frame_there frames g inside = frame_by g inside (frames g inside)
