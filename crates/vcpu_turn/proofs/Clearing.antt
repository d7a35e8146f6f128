-- Own words that are known to be 0, and steps that are elsewhere: the course of a release, and of a call that sets a machine-to-physical word.
use Rattle.std.proofs.Common.{◌≡◌, ◌≢◌, ℕ, ◌==◌, Bool, true, false, List, [], ◌∷◌, Option, Some, None, Result, Ok, Err, refl, sym, ap, ◌∙◌, subst, arith}
use Rattle.xp_words.specs.KindWords.{kind_fields}
use Rattle.xp_words.specs.Machine.{Machine}
use Rattle.xp_words.specs.PageTypes.{is_table}
use Rattle.xp_words.specs.Places.{sizes_of}
use Rattle.xp_words.specs.declared.entry.Demand.{Demand}
use Rattle.xp_words.specs.declared.entry.Demand.TheVariants as demands
use Rattle.xp_words.specs.declared.kind.KindWord.{KindWord}
use Rattle.xp_words.specs.declared.kind.PageType.{PageType}
use Rattle.xp_words.specs.declared.place.Place.{Place}
use Rattle.xp_words.specs.declared.place.Place.TheVariants.{Clock, Vcpu, Refs}
use Rattle.xp_words.specs.declared.reply.Pause.TheVariants.{Due, Lost, Busy, Flush, Alive}
use Rattle.xp_words.specs.declared.reply.Refusal.{Refusal}
use Rattle.xp_words.specs.declared.reply.Stop.{Stop}
use Rattle.xp_words.specs.declared.reply.Stop.TheVariants.{Refused, Paused}
use Rattle.xp_board.specs.declared.holdings.Holdings.{Holdings}
use Rattle.xp_board.specs.declared.step.Act.{Act}
use Rattle.xp_board.specs.declared.step.Mark.{Mark}
use Rattle.xp_board.specs.declared.step.StepKind.{StepKind}
use Rattle.xp_board.specs.Acts.{left_by}
use Rattle.xp_board.specs.KindSteps.{Form, Live, Partial, InWork, Dead, form_of}
use Rattle.xp_board.specs.Lists.{EachOf}
use Rattle.xp_board.specs.Steps.{last_since}
use Rattle.xp_board.specs.Told.{Post, PortValue}
use Rattle.step_maker.specs.Moves.{Moment, Moves, Ran}
use Rattle.step_maker.specs.Visits.{Visit, visits, Does, Nothing, Only, Then, Where}
use Rattle.step_maker.proofs.Piecing.{each_append}
use Rattle.flush_words.proofs.Lasting.{last_kept, last_left}
use Rattle.frame_words.specs.Freeing.{FreesBy, PutBy, lowers_refs}
use Rattle.frame_words.specs.Refs.{GetsBy, Raises, UnreferredBy}
use Rattle.frame_words.specs.Refs as refs
use Rattle.frame_types.specs.Found.{Dies, DropsBy, StoresKind, saw_kind}
use Rattle.m2p_map.specs.Found.{MapsBy, StoresM2p}
use Rattle.table_entries.specs.Found.{saw_cell}
use Rattle.table_words.specs.Entries.{ShedsAt}
use Rattle.table_releases.specs.Found.{ComesBy, FormBy, LiveBy, LowersTable, ReleasedBy, ReleasesBy, TypedReleased, has_recorded}
use Rattle.table_releases.specs.declared.entries.Released.{Released}

-- ---- the own word of that number, last found or left as 0
abbrev pub Known : ℕ → PortValue → Type 0
Known k v = last_since (sizes_of v.post.machine) 0 (Vcpu v.post.vcpu k) v.holdings.steps ≡ Some 0

abbrev pub elsewhere : Place → Bool
elsewhere (Vcpu s k) = false
elsewhere _ = true

elsewhere_apart : (p : Place) (s k : ℕ) → elsewhere p ≡ true → p ≢ Vcpu s k
elsewhere_apart p s k off is = both (elsewhere p) off (ap elsewhere is)
  where
    both : (b : Bool) → b ≡ true → b ≡ false → ⊥
    both b on off = cc

module _ (v w : PortValue) (p : Place) (a : Act) (kind : StepKind) (mark : Option Mark) (found : ℕ) (m : Moves v w p a kind mark found) where
  known_now : (k : ℕ) → last_since (sizes_of v.post.machine) 0 (Vcpu v.post.vcpu k) w.holdings.steps ≡ Some 0 → Known k w
  known_now k is = subst (λ (o : Post). last_since (sizes_of o.machine) 0 (Vcpu o.vcpu k) w.holdings.steps ≡ Some 0) (sym (ap (λ (y : PortValue). y.post) m.to)) is

  -- a step at another place
  pub known_on : (k : ℕ) → p ≢ Vcpu v.post.vcpu k → Known k v → Known k w
  known_on k off known = known_now k (last_kept v w p a kind mark found m 0 (Vcpu v.post.vcpu k) (omega arith) off ∙ known)

  -- a step that found or left 0 there
  pub known_left : (k : ℕ) → p ≡ Vcpu v.post.vcpu k → left_by a found ≡ 0 → Known k w
  known_left k at left =
      known_now k
      (subst (λ q. last_since (sizes_of v.post.machine) 0 q w.holdings.steps ≡ Some 0) at (last_left v w p a kind mark found m 0 (omega arith) ∙ ap (λ (x : ℕ). Some x) left))

-- a running vCPU finds 0 in the word then
pub known_found : (v w : PortValue) (k : ℕ) (a : Act) (step : StepKind) (mark : Option Mark) (x : ℕ) → Moves v w (Vcpu v.post.vcpu k) a step mark x → k ≢ 4 → k ≢ 5 → Known 6 v → Known k v → x ≡ 0
known_found v w k a step mark x m off off2 runs known =
    let f = m.finds in
    let own = (f.sound.found v.post.vcpu f.real).own in
    let formed = (f.sound.formed v.post.vcpu f.real).own in
    let run = own.run 0 (formed.run ∙ ap (λ (u : Holdings). last_since (sizes_of v.post.machine) 0 (Vcpu v.post.vcpu 6) u.steps) f.mine ∙ runs) in
    sym f.word ∙ own.words k 0 off off2 (λ e. absurd (let both = sym run ∙ e in cc)) (ap (λ (u : Holdings). last_since (sizes_of v.post.machine) 0 (Vcpu v.post.vcpu k) u.steps) f.mine ∙ known)

-- what is known of the own words is known on
abbrev pub Keeps : PortValue → PortValue → Type 0
Keeps v w = (k : ℕ) → Known k v → Known k w

pub keeps_moves : (v w : PortValue) (p : Place) (a : Act) (kind : StepKind) (mark : Option Mark) (found : ℕ) → elsewhere p ≡ true → Moves v w p a kind mark found → Keeps v w
keeps_moves v w p a kind mark found off m k known = known_on v w p a kind mark found m k (elsewhere_apart p v.post.vcpu k off) known

-- ---- lists of visits elsewhere
abbrev pub Apart : Visit → Type 0
Apart x = elsewhere x.place ≡ true

abbrev pub Aparts : (List Visit → Type 0) → Type 0
Aparts P = (vs : List Visit) → P vs → EachOf Apart vs

ran_keeps : (v w : PortValue) (ms : List Moment) → Ran v ms w → EachOf Apart (visits ms) → Keeps v w
unfolding EachOf
ran_keeps v w [] ran off k known = subst (Known k) (sym ran) known
ran_keeps v w (m ∷ ms) ran off k known = keeps_moves ran.0 w m.place m.act m.kind m.mark m.found off.0 ran.2.moves k (ran_keeps v ran.0 ms ran.1 off.1 k known)

pub keeps_does : (v w : PortValue) (P : List Visit → Type 0) → Aparts P → Does v w P → Keeps v w
unfolding Does
keeps_does v w P off does = ran_keeps v w does.0 does.1 (off (visits does.0) does.2)

nothing : Aparts Nothing
unfolding EachOf
nothing vs is = subst (EachOf Apart) (sym is) tt

one : (x : Visit) → Apart x → Aparts (Only x)
unfolding EachOf
one x off vs is = subst (EachOf Apart) (sym is) (off, tt)

both : (P Q : List Visit → Type 0) → Aparts P → Aparts Q → Aparts (Then P Q)
both P Q a b vs t = subst (EachOf Apart) (sym t.list) (each_append Apart t.before t.after (a t.before t.first) (b t.after t.next))

maybe : (b : Bool) (P : List Visit → Type 0) → Aparts P → Aparts (Where b P)
maybe true P a = a
maybe false P a = nothing

-- ---- frames and references
stores : (f : ℕ) (k : KindWord) → Aparts (StoresKind f k)
stores f k vs h = one _ refl vs h.1

dies : (f : ℕ) (want : PageType) (marked : Bool) → Aparts (Dies f want marked)
dies f want marked vs h = both _ _ (one _ refl) (stores f _) vs h.1

frees : (f : ℕ) (o : Option ℕ) → Aparts (FreesBy f o)
unfolding EachOf
frees f (Some owner) vs h = subst (EachOf Apart) (sym h.4) (refl, (refl, (refl, (refl, tt))))
frees f None vs h = nothing vs h

pub puts : (f : ℕ) → Aparts (PutBy f)
puts f vs p = both _ _ (one (lowers_refs f p.word) refl) (frees f p.last) vs p.steps

pub drops : (f : ℕ) (kind : PageType) → Aparts (DropsBy f kind)
drops f kind vs h = both _ _ (one _ refl) (both _ _ (maybe ((kind_fields h.0).number == 1) (Dies f kind false) (dies f kind false)) (puts f)) vs h.1

pub ends_dead : (f : ℕ) (kind : PageType) (marked : Bool) → Aparts (λ vs. Then (Dies f kind marked) (PutBy f) vs)
ends_dead f kind marked vs h = both _ _ (dies f kind marked) (puts f) vs h

raises : (f x y : ℕ) → Aparts (Raises f x y)
raises f x y vs h = both _ _ (one _ refl) (one _ refl) vs h

unreferred : (n : Machine) (f owner : ℕ) (r : Refusal) → Aparts (UnreferredBy n f owner r)
unreferred n f owner r vs (refs.outside past is none) = nothing vs none
unreferred n f owner r vs (refs.refused x real is saw) = one _ refl vs saw

pub gets : (n : Machine) (f owner : ℕ) (answer : Result ℕ Stop) → Aparts (GetsBy {A = ℕ} n f owner answer)
gets n f owner (Ok g) vs h = raises f _ _ vs h.2
gets n f owner (Err (Refused r)) vs h = unreferred n f owner r vs h
gets n f owner (Err (Paused (Lost place expected found))) vs h = raises f _ _ vs h.3
gets n f owner (Err (Paused Due)) vs h = absurd h
gets n f owner (Err (Paused (Busy g found))) vs h = absurd h
gets n f owner (Err (Paused (Flush u stamp found))) vs h = absurd h
gets n f owner (Err (Paused (Alive u found))) vs h = absurd h

stores_m2p : (f gpfn : ℕ) → Aparts (StoresM2p f gpfn)
stores_m2p f gpfn vs h = one _ refl vs h.1

pub maps : (n : Machine) (f owner gpfn : ℕ) (answer : Result (Unit {0}) Stop) → Aparts (MapsBy n f owner gpfn answer)
maps n f owner gpfn (Ok done) vs h = both _ _ (gets n f owner (Ok f)) (both _ _ (stores_m2p f gpfn) (puts f)) vs h
maps n f owner gpfn (Err e) vs h = gets n f owner (Err e) vs h

-- ---- a recorded entry that is released
sheds : (p : Place) (f i : ℕ) → elsewhere p ≡ true → Aparts (ShedsAt p f i)
sheds p f i off vs h = one _ off vs h.1

lowers : (g : ℕ) (answer : Result Released Stop) (last : Bool) → Aparts (LowersTable g answer last)
lowers g answer true vs h = nothing vs h.1
lowers g answer false vs h = puts g vs h.1

lives : (g : ℕ) (t : PageType) (answer : Result Released Stop) (table : Bool) → Aparts (LiveBy g t answer table)
lives g t answer true vs h = both _ _ (one _ refl) (lowers g answer ((kind_fields h.0).number == 1)) vs h.1
lives g t answer false vs h = drops g t vs h.1

comes : (f i g : ℕ) (t : PageType) (x : ℕ) (answer : Result Released Stop) (recorded : Bool) → Aparts (ComesBy f i g t x answer recorded)
comes f i g t x answer true vs h = sheds (Refs g) f i refl vs h.2
comes f i g t x answer false vs h = both _ _ (one _ refl) (both _ _ (stores g _) (puts g)) vs h.1.1

module _ (n : Machine) (f i : ℕ) (answer : Released) where
  forms : (g : ℕ) (t : PageType) (x : ℕ) (o : Form) → Aparts (FormBy n f i g t x (Ok answer) o)
  forms g t x Live vs h = both _ _ (sheds (Refs g) f i refl) (lives g t (Ok answer) (is_table t)) vs h
  forms g t x Partial vs h = both _ _ (one _ refl) (comes f i g t x (Ok answer) (has_recorded t (kind_fields x))) vs h
  forms g t x InWork vs h = nothing vs h.1
  forms g t x Dead vs h = nothing vs h.1

  typed : (g : ℕ) (t : PageType) → Aparts (TypedReleased n f i g t (Ok answer))
  typed g t vs h = both _ _ (one (saw_kind g h.0) refl) (forms g t h.0 (form_of (kind_fields h.0))) vs h.1

  releases : (d : Demand) → Aparts (ReleasesBy n f i (Ok answer) d)
  releases demands.Nothing vs h = sheds Clock f i refl vs h.1
  releases demands.Bad vs h = sheds Clock f i refl vs h.1
  releases (demands.Read g) vs h = both _ _ (sheds Clock f i refl) (puts g) vs h.1
  releases (demands.Typed g t) vs h = typed g t vs h

  pub released : (t : PageType) → Aparts (ReleasedBy n f i t (Ok answer))
  released t vs h = both _ _ (one (saw_cell f i h.0) refl) (releases _) vs h.1
