-- What an entry asks, taken, given back and released: determined by the words found and by the gate's answers.
use Rattle.std.proofs.Common.{◌≡◌, ◌≤◌, ◌-◌, ℕ, Bool, true, false, List, [], ◌∷◌, ◌++◌, Result, Ok, Err, refl, sym, ap, ◌∙◌, subst}
use native.Mathlib.Omega.{arith}
use Rattle.xp_words.specs.declared.entry.Demand.{Demand}
use Rattle.xp_words.specs.declared.entry.Demand.TheVariants as demands
use Rattle.xp_words.specs.declared.kind.PageType.{PageType}
use Rattle.xp_words.specs.declared.kind.PageType.TheVariants.{Writable}
use Rattle.xp_words.specs.declared.reply.Stop.{Stop}
use Rattle.xp_board.specs.Told.{PortValue}
use Rattle.step_maker.specs.Moves.{Came}
use Rattle.step_maker.proofs.Coming.{came_self, came_trans}
use Rattle.partial_state.specs.Levels.{level_type}
use Rattle.xp_preempt.specs.Gates.{GivesAnswers}
use Rattle.kind_words.specs.Kinds.{partial_kind}
use Rattle.frame_types.specs.Lowering.{DropsType}
use Rattle.kept_marks.specs.Marks.{KeptFor}
use Rattle.course_laws.proofs.Walking.{kept_came}
use Rattle.table_entries.specs.Acquiring.{Acquired, GaveRef, GaveType, GotRef}
use Rattle.table_entries.proofs.Shared.{ref_came, gave_came}
use Rattle.writable_pages.specs.Pages.{GotPage}
use Rattle.entry_exchange.specs.Course as course
use Rattle.entry_exchange.specs.Course.{GaveDemand, ReleasedDemand, TookDemand}
use Rattle.determined_laws.specs.Courses.{Alike}
use Rattle.determined_laws.specs.Forks.{Agree}
use Rattle.determined_laws.proofs.Calls.{drops_plain_alike, drops_plain_came, drops_type_alike, drops_type_came, gets_alike, puts_alike}
use Rattle.determined_laws.proofs.Courses.{alike_apart, alike_map, alike_next, alike_same}
use Rattle.determined_calls.proofs.Below.{acquired_alike, got_page_alike, kept_alike, released_alike, released_came}

-- a call that answers what was taken, seen as one that only says that it was
abbrev pub ended : {A : Type 0} → Result A Stop → Result (Unit {0}) Stop
ended (Ok f) = Ok tt
ended (Err e) = Err e

pub ended_agree : {A : Type 0} (r s : Result A Stop) → Agree r s → ended r ≡ ended s
ended_agree (Ok f) (Ok g) e = refl
ended_agree (Err e) (Err f) s = ap (λ z. Err z) s
ended_agree (Ok f) (Err e) s = absurd s
ended_agree (Err e) (Ok f) s = absurd s

-- ---- taken
-- by what is asked: nothing, a reference, ordinary memory, or a table
data Takes (owner level : ℕ) (v : PortValue) (d : Demand) (w : PortValue) (answers : List Bool) (a : Result (Unit {0}) Stop) : Type 0 where
  nothing : d ≡ demands.Nothing → w ≡ v → answers ≡ [] → a ≡ Ok tt → Takes owner level v d w answers a
  read : (g : ℕ) (r : Result ℕ Stop) → d ≡ demands.Read g → GotRef v w g owner r → answers ≡ [] → a ≡ ended r → Takes owner level v d w answers a
  page : (g : ℕ) (r : Result ℕ Stop) → level ≡ 1 → d ≡ demands.Typed g Writable → GotPage v g owner w r → answers ≡ [] → a ≡ ended r → Takes owner level v d w answers a
  table : (g : ℕ) (r : Result ℕ Stop) → 2 ≤ level → d ≡ demands.Typed g (level_type (level - 1)) → Acquired v g owner (level - 1) w answers r → a ≡ ended r → Takes owner level v d w answers a

takes : (owner level : ℕ) (v : PortValue) (d : Demand) (w : PortValue) (answers : List Bool) (a : Result (Unit {0}) Stop) → TookDemand owner level v d w answers a → Takes owner level v d w answers a
takes owner level v _ _ _ _ course.nothing = nothing refl refl refl refl
takes owner level v _ _ _ _ (course.referred w g ref) = read g (Ok g) refl ref refl refl
takes owner level v _ _ _ _ (course.unreferred w g stop ref) = read g (Err stop) refl ref refl refl
takes owner level v _ _ _ _ (course.paged w g one got) = page g (Ok g) one refl got refl refl
takes owner level v _ _ _ _ (course.unpaged w g stop one got) = page g (Err stop) one refl got refl refl
takes owner level v _ _ _ _ (course.acquired w g answers two had) = table g (Ok g) two refl had refl
takes owner level v _ _ _ _ (course.refused w g answers stop two had) = table g (Err stop) two refl had refl

same_read : (g h : ℕ) (d : Demand) → d ≡ demands.Read g → d ≡ demands.Read h → g ≡ h
same_read g h d e f = let s : demands.Read g ≡ demands.Read h = sym e ∙ f in cc

same_typed : (g h : ℕ) (t u : PageType) (d : Demand) → d ≡ demands.Typed g t → d ≡ demands.Typed h u → g ≡ h
same_typed g h t u d e f = let s : demands.Typed g t ≡ demands.Typed h u = sym e ∙ f in cc

module _ (owner level : ℕ) (v : PortValue) (says : ℕ → Bool) (n : ℕ) (d : Demand) (w x : PortValue) (answers others : List Bool) (a b : Result (Unit {0}) Stop)
    (one : GivesAnswers says n answers) (two : GivesAnswers says n others) where
  abbrev Both : Type 0
  Both = Alike v w x ((answers ≡ others) × (a ≡ b))

  by_page : (g h : ℕ) (r s : Result ℕ Stop) → g ≡ h → GotPage v g owner w r → GotPage v h owner x s → Alike v w x (r ≡ s)
  by_page g h r s e p q = got_page_alike p (subst (λ z. GotPage v z owner x s) (sym e) q)

  by_table : (g h : ℕ) (r s : Result ℕ Stop) → g ≡ h → Acquired v g owner (level - 1) w answers r → Acquired v h owner (level - 1) x others s → Alike v w x ((answers ≡ others) × (r ≡ s))
  by_table g h r s e p q = acquired_alike says n one two p (subst (λ z. Acquired v z owner (level - 1) x others s) (sym e) q)

  takes_alike : Takes owner level v d w answers a → Takes owner level v d x others b → Both
  takes_alike (nothing e f g h) (nothing i j k l) = alike_same (f ∙ sym j) (g ∙ sym k, h ∙ sym l)
  takes_alike (nothing e f g h) (read i r j k l m) = absurd (let s = sym e ∙ j in cc)
  takes_alike (nothing e f g h) (page i r j k l m o) = absurd (let s = sym e ∙ k in cc)
  takes_alike (nothing e f g h) (table i r j k l m) = absurd (let s = sym e ∙ k in cc)
  takes_alike (read g r e p f h) (nothing i j k l) = absurd (let s = sym i ∙ e in cc)
  takes_alike (read g r e p f h) (read i s j q k l) =
      alike_map (gets_alike g owner r s p.found (subst (λ z. GotRef v x z owner s) (sym (same_read g i d e j)) q).found) (λ t. (f ∙ sym k, h ∙ (ended_agree r s t ∙ sym l)))
  takes_alike (read g r e p f h) (page i s j k l m o) = absurd (let t = sym e ∙ k in cc)
  takes_alike (read g r e p f h) (table i s j k l m) = absurd (let t = sym e ∙ k in cc)
  takes_alike (page g r e f p h i) (nothing j k l m) = absurd (let s = sym j ∙ f in cc)
  takes_alike (page g r e f p h i) (read j s k l m o) = absurd (let t = sym k ∙ f in cc)
  takes_alike (page g r e f p h i) (page j s k l q m o) = alike_map (by_page g j r s (same_typed g j Writable Writable d f l) p q) (λ t. (h ∙ sym m, i ∙ (ap ended t ∙ sym o)))
  takes_alike (page g r e f p h i) (table j s k l q m) = absurd (omega (arith, e, k))
  takes_alike (table g r e f p h) (nothing j k l m) = absurd (let s = sym j ∙ f in cc)
  takes_alike (table g r e f p h) (read j s k l m o) = absurd (let t = sym k ∙ f in cc)
  takes_alike (table g r e f p h) (page j s k l q m o) = absurd (omega (arith, e, k))
  takes_alike (table g r e f p h) (table j s k l q m) = alike_map (by_table g j r s (same_typed g j _ _ d f l) p q) (λ t. (t.0, h ∙ (ap ended t.1 ∙ sym m)))

pub took_demand_alike : {owner level : ℕ} {v w x : PortValue} {d : Demand} {answers others : List Bool} {a b : Result (Unit {0}) Stop} (says : ℕ → Bool) (n : ℕ) → GivesAnswers says n answers → GivesAnswers says n others →
    TookDemand owner level v d w answers a → TookDemand owner level v d x others b → Alike v w x ((answers ≡ others) × (a ≡ b))
took_demand_alike {owner} {level} {v} {w} {x} {d} {answers} {others} {a} {b} says n one two p q =
    takes_alike owner level v says n d w x answers others a b one two (takes owner level v d w answers a p) (takes owner level v d x others b q)

-- ---- given back whole
data Gives (owner level : ℕ) (v : PortValue) (d : Demand) (w : PortValue) : Type 0 where
  nothing : d ≡ demands.Nothing → w ≡ v → Gives owner level v d w
  read : (g : ℕ) → d ≡ demands.Read g → GaveRef v w g → Gives owner level v d w
  page : (g : ℕ) → level ≡ 1 → d ≡ demands.Typed g Writable → GaveType v w g Writable → Gives owner level v d w
  shared : (u : PortValue) (g : ℕ) → 2 ≤ level → d ≡ demands.Typed g (level_type (level - 1)) → DropsType v u g false → GaveRef u w g → Gives owner level v d w
  last : (u : PortValue) (g : ℕ) → 2 ≤ level → d ≡ demands.Typed g (level_type (level - 1)) → DropsType v u g true → KeptFor u w g (partial_kind (level_type (level - 1)) true false 512 0) owner → Gives owner level v d w

gives : (owner level : ℕ) (v : PortValue) (d : Demand) (w : PortValue) → GaveDemand owner level v d w → Gives owner level v d w
gives owner level v _ _ course.GaveDemand.nothing = nothing refl refl
gives owner level v _ _ (course.GaveDemand.referred w g gave) = read g refl gave
gives owner level v _ _ (course.GaveDemand.paged w g one gave) = page g one refl gave
gives owner level v _ _ (course.GaveDemand.shared u w g two drops gave) = shared u g two refl drops gave
gives owner level v _ _ (course.GaveDemand.last u w g two drops kept) = last u g two refl drops kept

module _ (owner level : ℕ) (v : PortValue) (d : Demand) (w x : PortValue) where
  abbrev Ends : Type 0
  Ends = Alike v w x (Unit {0})

  drops_kept : (u y : PortValue) (g h : ℕ) → g ≡ h → (one two : Bool) → DropsType v u g one → DropsType v y h two → Alike v u y (one ≡ two)
  drops_kept u y g h e one two p q = drops_type_alike p (subst (λ z. DropsType v y z two) (sym e) q)

  gives_alike : Gives owner level v d w → Gives owner level v d x → Ends
  gives_alike (nothing e f) (nothing i j) = alike_same (f ∙ sym j) tt
  gives_alike (nothing e f) (read i j k) = absurd (let s = sym e ∙ j in cc)
  gives_alike (nothing e f) (page i j k l) = absurd (let s = sym e ∙ k in cc)
  gives_alike (nothing e f) (shared u i j k l m) = absurd (let s = sym e ∙ k in cc)
  gives_alike (nothing e f) (last u i j k l m) = absurd (let s = sym e ∙ k in cc)
  gives_alike (read g e p) (nothing i j) = absurd (let s = sym i ∙ e in cc)
  gives_alike (read g e p) (read i j q) = puts_alike g p.found (subst (λ z. GaveRef v x z) (sym (same_read g i d e j)) q).found
  gives_alike (read g e p) (page i j k l) = absurd (let s = sym e ∙ k in cc)
  gives_alike (read g e p) (shared u i j k l m) = absurd (let s = sym e ∙ k in cc)
  gives_alike (read g e p) (last u i j k l m) = absurd (let s = sym e ∙ k in cc)
  gives_alike (page g e f p) (nothing i j) = absurd (let s = sym i ∙ f in cc)
  gives_alike (page g e f p) (read i j q) = absurd (let s = sym f ∙ j in cc)
  gives_alike (page g e f p) (page i j k q) = drops_plain_alike g Writable p.found (subst (λ z. GaveType v x z Writable) (sym (same_typed g i Writable Writable d f k)) q).found
  gives_alike (page g e f p) (shared u i j k l m) = absurd (omega (arith, e, j))
  gives_alike (page g e f p) (last u i j k l m) = absurd (omega (arith, e, j))
  gives_alike (shared u g e f p q) (nothing i j) = absurd (let s = sym i ∙ f in cc)
  gives_alike (shared u g e f p q) (read i j k) = absurd (let s = sym f ∙ j in cc)
  gives_alike (shared u g e f p q) (page i j k l) = absurd (omega (arith, e, j))
  gives_alike (shared u g e f p q) (shared y h j k r s) =
      alike_next (λ z. GaveRef z x h) (drops_type_came p) (gave_came u w g q) (gave_came y x h s) (drops_kept u y g h (same_typed g h _ _ d f k) false false p r) s
      (λ t more. puts_alike g q.found (subst (λ z. GaveRef u x z) (sym (same_typed g h _ _ d f k)) more).found)
  gives_alike (shared u g e f p q) (last y h j k r s) = alike_apart (gave_came u w g q) (kept_came y x h _ owner s) (drops_kept u y g h (same_typed g h _ _ d f k) false true p r) (λ t. cc)
  gives_alike (last u g e f p q) (nothing i j) = absurd (let s = sym i ∙ f in cc)
  gives_alike (last u g e f p q) (read i j k) = absurd (let s = sym f ∙ j in cc)
  gives_alike (last u g e f p q) (page i j k l) = absurd (omega (arith, e, j))
  gives_alike (last u g e f p q) (shared y h j k r s) = alike_apart (kept_came u w g _ owner q) (gave_came y x h s) (drops_kept u y g h (same_typed g h _ _ d f k) true false p r) (λ t. cc)
  gives_alike (last u g e f p q) (last y h j k r s) =
      alike_next (λ z. KeptFor z x h (partial_kind (level_type (level - 1)) true false 512 0) owner) (drops_type_came p) (kept_came u w g _ owner q) (kept_came y x h _ owner s)
      (drops_kept u y g h (same_typed g h _ _ d f k) true true p r) s
      (λ t more. kept_alike q (subst (λ z. KeptFor u x z (partial_kind (level_type (level - 1)) true false 512 0) owner) (sym (same_typed g h _ _ d f k)) more))

pub gave_demand_came : (owner level : ℕ) (v : PortValue) (d : Demand) (w : PortValue) → GaveDemand owner level v d w → Came v w
gave_demand_came owner level v _ _ course.GaveDemand.nothing = came_self v
gave_demand_came owner level v _ _ (course.GaveDemand.referred w g gave) = gave_came v w g gave
gave_demand_came owner level v _ _ (course.GaveDemand.paged w g one gave) = drops_plain_came v w g Writable gave.found
gave_demand_came owner level v _ _ (course.GaveDemand.shared u w g two drops gave) = came_trans v u w (drops_type_came drops) (gave_came u w g gave)
gave_demand_came owner level v _ _ (course.GaveDemand.last u w g two drops kept) = came_trans v u w (drops_type_came drops) (kept_came u w g _ owner kept)

pub gave_demand_alike : {owner level : ℕ} {v w x : PortValue} {d : Demand} → GaveDemand owner level v d w → GaveDemand owner level v d x → Alike v w x (Unit {0})
gave_demand_alike {owner} {level} {v} {w} {x} {d} p q = gives_alike owner level v d w x (gives owner level v d w p) (gives owner level v d x q)

-- ---- what the old word asked, released
pub released_demand_came : (v : PortValue) (d : Demand) (w : PortValue) (answers : List Bool) → ReleasedDemand v d w answers → Came v w
released_demand_came v _ _ _ course.ReleasedDemand.nothing = came_self v
released_demand_came v _ _ _ course.ReleasedDemand.bad = came_self v
released_demand_came v _ _ _ (course.ReleasedDemand.referred w g gave) = gave_came v w g gave
released_demand_came v _ _ _ (course.ReleasedDemand.released w g t answers answer released fits) = released_came released

pub released_demand_alike : {v w x : PortValue} {d : Demand} {answers others : List Bool} (says : ℕ → Bool) (n : ℕ) → GivesAnswers says n answers → GivesAnswers says n others →
    ReleasedDemand v d w answers → ReleasedDemand v d x others → Alike v w x (answers ≡ others)
released_demand_alike says n one two course.ReleasedDemand.nothing course.ReleasedDemand.nothing = alike_same refl refl
released_demand_alike says n one two course.ReleasedDemand.bad course.ReleasedDemand.bad = alike_same refl refl
released_demand_alike says n one two (course.ReleasedDemand.referred w g p) (course.ReleasedDemand.referred x _ q) = alike_map (puts_alike g p.found q.found) (λ t. refl)
released_demand_alike says n one two (course.ReleasedDemand.released w g t answers a p fits) (course.ReleasedDemand.released x _ _ others b q also) = alike_map (released_alike says n one two p q) (λ s. s.0)
