-- Descriptor tables that are set are determined: the pages are taken one by one, or given back; and the words name them.
use Rattle.std.proofs.Common.{◌≡◌, ℕ, zero, suc, ◌+◌, List, length, get_or, Option, Some, None, Result, Ok, Err, refl, sym, ap, ◌∙◌, subst, inl, inr, arith}
use Rattle.xp_words.specs.ContextWords.{ldt_write}
use Rattle.xp_words.specs.declared.kind.PageType.TheVariants.{Desc}
use Rattle.xp_words.specs.declared.place.Place.TheVariants.{Vcpu}
use Rattle.xp_words.specs.declared.reply.Refusal.{Refusal}
use Rattle.xp_words.specs.declared.reply.Stop.{Stop}
use Rattle.xp_words.specs.declared.reply.Stop.TheVariants.{Refused}
use Rattle.xp_board.specs.declared.step.Act.TheVariants.{Store}
use Rattle.xp_board.specs.declared.step.StepKind.TheVariants as kinds
use Rattle.xp_board.specs.Told.{PortValue}
use Rattle.step_maker.specs.Moves.{Came, Moves}
use Rattle.context_words.specs.Names.{naming}
use Rattle.frame_types.specs.Found.{DropsPlain}
use Rattle.desc_pages.specs.Gdt as gdts
use Rattle.desc_pages.specs.Gdt.{GivesPages, NamedFrom, SetsGdt, TookPages, gdt_refusal, page_at}
use Rattle.desc_pages.specs.Ldt as ldts
use Rattle.desc_pages.specs.Ldt.{SetsLdt, UnnamedFrom, ldt_base, ldt_refusal}
use Rattle.desc_pages.specs.Names.{GaveOld, NamesPage, own_domain}
use Rattle.desc_pages.specs.Pages.{GotDesc}
use Rattle.determined_laws.specs.Courses.{Alike}
use Rattle.determined_laws.proofs.Courses.{Goes, alike_map, goes_came, goes_same, more, none}
use Rattle.determined_tables.proofs.Chains.{Chain, Ends, IsFixed, IsSure, fixed_by, fixed_ends, fixed_map, fixed_move, fixed_sure, fixed_then, sure_as, sure_by, sure_some, sure_two}
use Rattle.determined_tables.proofs.Descs.{got_desc_fixed}
use Rattle.determined_tables.proofs.Leaves.{drops_sure}
use Rattle.determined_tables.proofs.Loops.{Looped, Rounds, begun, halted, looped_fixed, round, through}

-- ---- a word that names a page: what it named before is given back
gave_old_sure : (v : PortValue) (old : ℕ) → IsSure v (λ w. GaveOld v w old)
gave_old_sure v zero = fixed_by (λ w t p. (p, refl)) (fixed_ends v tt)
gave_old_sure v (suc g) = drops_sure v g Desc

names_view : (v w : PortValue) (k : ℕ) (new : Option ℕ) (t : Unit {0}) → NamesPage v w k new → Chain (λ u old. Moves v u (Vcpu v.post.vcpu k) (Store (naming new)) kinds.Context None old) (λ u old z (s : Unit {0}). GaveOld u z old) w t
names_view v w k new t p = record { at = p.stored; answer = p.old; first = p.stores; rest = p.gives }

pub names_sure : (v : PortValue) (k : ℕ) (new : Option ℕ) → IsSure v (λ w. NamesPage v w k new)
names_sure v k new = fixed_by (λ w t p. names_view v w k new t p) (fixed_then (fixed_move v (Vcpu v.post.vcpu k) (Store (naming new)) kinds.Context None) (λ u old p. gave_old_sure u old))

-- ---- from the last word to the first
module _ (first_word : ℕ) (page : ℕ → Option ℕ) where
  abbrev At : Type 0
  At = PortValue × ℕ

  pub record Names (s t : At) : Type 0 where
    pub names : NamesPage s.0 t.0 (first_word + t.1) (page t.1)
    pub index : s.1 ≡ t.1 + 1

  came : (s t : At) → Names s t → Came s.0 t.0
  came s t p = (names_sure s.0 (first_word + t.1) (page t.1)).came t.0 tt p.names

  same : (s t u : At) → Names s t → Names s u → Alike s.0 t.0 u.0 (t ≡ u)
  same s t u p q = by ((names_sure s.0 (first_word + u.1) (page u.1)).alike t.0 u.0 tt tt (subst (λ k. NamesPage s.0 t.0 (first_word + k) (page k)) at_one p.names) q.names)
    where
      at_one : t.1 ≡ u.1
      at_one = let e = p.index in let f = q.index in omega (arith, e, f)

      by : Alike s.0 t.0 u.0 (◌≡◌ {A = Unit {0}} tt tt) → Alike s.0 t.0 u.0 (t ≡ u)
      by (inl f) = inl f
      by (inr e) = inr (e.0, ap (λ z. (z, t.1)) e.0 ∙ ap (λ z. (u.0, z)) at_one)

  none_on : (w : PortValue) (t : At) → Names (w, 0) t → ⊥
  none_on w t p = let e = p.index in omega (arith, e)

  pub named_sure : (v : PortValue) (count : ℕ) → IsSure v (λ w. Goes Names (v, count) (w, 0))
  named_sure v count =
      sure_by (λ w. Goes Names (v, count) (w, 0)) (λ w p. goes_came Names (λ (s : At). s.0) came same (v, count) (w, 0) p)
      (λ w x p q. alike_map (goes_same Names (λ (s : At). s.0) came same (v, count) (w, 0) (x, 0) (none_on w) (none_on x) p q) (λ e. tt))

named_goes : (v : PortValue) (fs : List ℕ) (k : ℕ) (w : PortValue) → NamedFrom v fs k w → Goes (Names 8 (page_at fs)) (v, 14) (w, k)
named_goes v fs _ _ gdts.none = none
named_goes v fs _ _ (gdts.more k u w before n) = more (u, k + 1) (w, k) (named_goes v fs (k + 1) u before) (record { names = n; index = refl })

named_from_sure : (v : PortValue) (fs : List ℕ) → IsSure v (λ w. NamedFrom v fs 0 w)
named_from_sure v fs = sure_as (λ w p. named_goes v fs 0 w p) (named_sure 8 (page_at fs) v 14)

abbrev no_page : ℕ → Option ℕ
no_page k = None

unnamed_goes : (v : PortValue) (k : ℕ) (w : PortValue) → UnnamedFrom v k w → Goes (Names 22 no_page) (v, 16) (w, k)
unnamed_goes v _ _ ldts.none = none
unnamed_goes v _ _ (ldts.more k u w before n) = more (u, k + 1) (w, k) (unnamed_goes v (k + 1) u before) (record { names = n; index = refl })

unnamed_sure : (v : PortValue) → IsSure v (λ w. UnnamedFrom v 0 w)
unnamed_sure v = sure_as (λ w p. unnamed_goes v 0 w p) (named_sure 22 no_page v 16)

-- ---- pages that are taken, and given back
abbrev stop_of : Result ℕ Stop → Option Stop
stop_of (Ok f) = None
stop_of (Err e) = Some e

module _ (d : ℕ) (fs : List ℕ) where
  abbrev PageRound : ℕ → PortValue → PortValue → Option Stop → Type 0
  PageRound i u w o = (b : Result ℕ Stop) × GotDesc u (get_or fs i 0) d w b × (o ≡ stop_of b)

  page_fixed : (i : ℕ) (u : PortValue) → IsFixed u (PageRound i u)
  page_fixed i u = fixed_map stop_of (got_desc_fixed (get_or fs i 0) d u)

  took_rounds : (v : PortValue) (k : ℕ) (w : PortValue) → TookPages v d fs k w → Rounds PageRound v k w
  took_rounds v _ _ gdts.none = begun
  took_rounds v _ _ (gdts.more k u w before g) = round k u w (took_rounds v k u before) (Ok (get_or fs k 0), g, refl)

-- so many are given back: none, or the newest and then the others
data GivesParts (fs : List ℕ) (n : ℕ) (v w : PortValue) : Type 0 where
  ended : n ≡ 0 → w ≡ v → GivesParts fs n v w
  newest : (k : ℕ) (u : PortValue) → n ≡ k + 1 → DropsPlain v u (get_or fs k 0) Desc → GivesPages fs k u w → GivesParts fs n v w

gives_parts : (fs : List ℕ) (n : ℕ) (v w : PortValue) → GivesPages fs n v w → GivesParts fs n v w
gives_parts fs _ _ _ (gdts.none v) = ended refl refl
gives_parts fs _ _ _ (gdts.more k v u w g rest) = newest k u refl g rest

none_given : (fs : List ℕ) (v w : PortValue) → GivesParts fs zero v w → w ≡ v
none_given fs v w (ended e s) = s
none_given fs v w (newest k u e g rest) = absurd (omega (arith, e))

some_given : (fs : List ℕ) (n : ℕ) (v w : PortValue) → GivesParts fs (suc n) v w → (u : PortValue) × DropsPlain v u (get_or fs n 0) Desc × GivesPages fs n u w
some_given fs n v w (ended e s) = absurd (omega (arith, e))
some_given fs n v w (newest k u e g rest) = let same : k ≡ n = omega (arith, e) in (u, subst (λ z. DropsPlain v u (get_or fs z 0) Desc) same g, subst (λ z. GivesPages fs z u w) same rest)

gives_sure : (fs : List ℕ) (n : ℕ) (v : PortValue) → IsSure v (λ w. GivesPages fs n v w)
gives_sure fs zero v = fixed_by (λ w t p. (none_given fs v w (gives_parts fs zero v w p), refl)) (fixed_ends v tt)
gives_sure fs (suc n) v = sure_as (λ w p. some_given fs n v w (gives_parts fs (suc n) v w p)) (sure_two (drops_sure v (get_or fs n 0) Desc) (λ u p. gives_sure fs n u))

-- ---- the GDT
module _ (v : PortValue) (entries : ℕ) (fs : List ℕ) where
  abbrev GdtRest : PortValue → ℕ × Option Stop → PortValue → Result (Unit {0}) Stop → Type 0
  GdtRest a (i, None) w r = (r ≡ Ok tt) × NamedFrom a fs 0 w
  GdtRest a (i, Some stop) w r = (r ≡ Err stop) × GivesPages fs i a w

  abbrev GdtView : Option Refusal → PortValue → Result (Unit {0}) Stop → Type 0
  GdtView (Some x) w r = Ends v (Err (Refused x)) w r
  GdtView None w r = Chain (Looped (PageRound (own_domain v) fs) (length fs) v) GdtRest w r

  gdt_view : (w : PortValue) (r : Result (Unit {0}) Stop) → SetsGdt v entries fs w r → GdtView (gdt_refusal entries fs) w r
  gdt_view _ _ (gdts.barred x e) = subst (λ k. GdtView k v (Err (Refused x))) (sym e) (refl, refl)
  gdt_view _ _ (gdts.untaken k a b w stop e t low g p) =
      subst (λ k. GdtView k w (Err stop)) (sym e) (record { at = b; answer = (k, Some stop); first = halted k a stop low (took_rounds (own_domain v) fs v k a t) (Err stop, g, refl); rest = (refl, p) })
  gdt_view _ _ (gdts.set a w e t n) = subst (λ k. GdtView k w (Ok tt)) (sym e) (record { at = a; answer = (length fs, None); first = through (took_rounds (own_domain v) fs v (length fs) a t); rest = (refl, n) })

  gdt_rest_fixed : (a : PortValue) (z : ℕ × Option Stop) → IsFixed a (GdtRest a z)
  gdt_rest_fixed a (i, None) = fixed_sure (Ok tt) (named_from_sure a fs)
  gdt_rest_fixed a (i, Some stop) = fixed_sure (Err stop) (gives_sure fs i a)

  gdt_view_fixed : (o : Option Refusal) → IsFixed v (GdtView o)
  gdt_view_fixed (Some x) = fixed_ends v (Err (Refused x))
  gdt_view_fixed None = fixed_then (looped_fixed (PageRound (own_domain v) fs) (page_fixed (own_domain v) fs) (length fs) v) (λ a z p. gdt_rest_fixed a z)

  pub gdt_fixed : IsFixed v (λ w r. SetsGdt v entries fs w r)
  gdt_fixed = fixed_by gdt_view (gdt_view_fixed (gdt_refusal entries fs))

-- ---- the LDT
module _ (v : PortValue) (address entries : ℕ) where
  abbrev LdtView : Option Refusal → PortValue → Result (Unit {0}) Stop → Type 0
  LdtView (Some x) w r = Ends v (Err (Refused x)) w r
  LdtView None w r = (r ≡ Ok tt) × ((u : PortValue) × UnnamedFrom v 0 u × ((old : ℕ) × Moves u w (Vcpu v.post.vcpu 7) (Store (ldt_write (ldt_base address entries))) kinds.Context None old))

  ldt_view : (w : PortValue) (r : Result (Unit {0}) Stop) → SetsLdt v address entries w r → LdtView (ldt_refusal address entries) w r
  ldt_view _ _ (ldts.barred x e) = subst (λ k. LdtView k v (Err (Refused x))) (sym e) (refl, refl)
  ldt_view _ _ (ldts.set u w old e n m) = subst (λ k. LdtView k w (Ok tt)) (sym e) (refl, (u, n, (old, m)))

  ldt_view_fixed : (o : Option Refusal) → IsFixed v (LdtView o)
  ldt_view_fixed (Some x) = fixed_ends v (Err (Refused x))
  ldt_view_fixed None = fixed_sure (Ok tt) (sure_two (unnamed_sure v) (λ u p. sure_some (fixed_move u (Vcpu v.post.vcpu 7) (Store (ldt_write (ldt_base address entries))) kinds.Context None)))

  pub ldt_fixed : IsFixed v (λ w r. SetsLdt v address entries w r)
  ldt_fixed = fixed_by ldt_view (ldt_view_fixed (ldt_refusal address entries))

pub sets_gdt_came : {v w : PortValue} {entries : ℕ} {fs : List ℕ} {a : Result (Unit {0}) Stop} → SetsGdt v entries fs w a → Came v w
sets_gdt_came {v} {w} {entries} {fs} {a} p = (gdt_fixed v entries fs).came w a p

pub sets_gdt_alike : {v w x : PortValue} {entries : ℕ} {fs : List ℕ} {a b : Result (Unit {0}) Stop} → SetsGdt v entries fs w a → SetsGdt v entries fs x b → Alike v w x (a ≡ b)
sets_gdt_alike {v} {w} {x} {entries} {fs} {a} {b} p q = (gdt_fixed v entries fs).alike w x a b p q

pub sets_ldt_came : {v w : PortValue} {address entries : ℕ} {a : Result (Unit {0}) Stop} → SetsLdt v address entries w a → Came v w
sets_ldt_came {v} {w} {address} {entries} {a} p = (ldt_fixed v address entries).came w a p

pub sets_ldt_alike : {v w x : PortValue} {address entries : ℕ} {a b : Result (Unit {0}) Stop} → SetsLdt v address entries w a → SetsLdt v address entries x b → Alike v w x (a ≡ b)
sets_ldt_alike {v} {w} {x} {address} {entries} {a} {b} p q = (ldt_fixed v address entries).alike w x a b p q
