-- What an acquisition does, one thing behind the other.
use Rattle.std.proofs.Common.{◌≡◌, ℕ, suc, ◌<◌, ◌≤◌, true, Option, Some, None, refl, sym, ap, ◌∙◌, subst, inl, inr, arith}
use Rattle.std.proofs.lemmas.Bool.{cases_eq}
use Rattle.std.proofs.lemmas.Option.{same_Some}
use Rattle.xp_words.specs.declared.kind.KindWord.{KindWord}
use Rattle.xp_words.specs.declared.kind.PageType.{PageType}
use Rattle.xp_words.specs.declared.entry.Demand.{Demand}
use Rattle.xp_words.specs.declared.entry.Demand.TheVariants.{Nothing, Bad, Read, Typed}
use Rattle.xp_board.specs.Readings.{is_dead}
use Rattle.table_law.specs.Plain.{Plain, at}
use Rattle.table_law.specs.Lawful.{share_count}
use Rattle.table_law.proofs.Doing.{Case, Doing, Doings, IsSame, Above, HasType, IsMet, AllMet, Grows, total, more}
use Rattle.table_law.proofs.Counting.{met_more, at_here, at_there}

-- ---- demands stay met
has_more : (c : Case) (d e : Doing) → ((x l : ℕ) → d.taken x ≡ Some l → e.taken x ≡ Some l) → (g : ℕ) (w : PageType) → HasType c d g w → HasType c e g w
has_more c d e keeps g w (inl a) = inl (a.0, keeps g a.0 a.1, a.2)
has_more c d e keeps g w (inr a) = inr a

pub met_stays : (c : Case) (d e : Doing) → ((x l : ℕ) → d.taken x ≡ Some l → e.taken x ≡ Some l) → (q : Demand) → IsMet c d q → IsMet c e q
met_stays c d e keeps Nothing a = a
met_stays c d e keeps Bad a = a
met_stays c d e keeps (Read g) a = a
met_stays c d e keeps (Typed g w) a = (a.0, has_more c d e keeps g w a.1)

-- ---- one behind the other
pub grows_none : (c : Case) (p : Plain) (d : Doing) (B : ℕ → Type 0) → Grows c p d p d B
grows_none c p d B =
    record {
      keeps = λ x l e. e;
      still = λ x l e off. refl;
      settled = λ x l e off. (e, off);
      closed = λ x l none some. absurd (cc);
    }

pub above_more : (c : Case) (p : Plain) (d : Doing) (q : Plain) (e : Doing) (B : ℕ → Type 0) (l : ℕ) → Above p d l → Grows c p d q e B → Above q e l
above_more c p d q e B l above grows x k some off = let s = grows.settled x k some off in above x k s.0 s.1

module _ (c : Case) (p : Plain) (d : Doing) (q : Plain) (e : Doing) (r : Plain) (f : Doing) (B : ℕ → Type 0) (but : (x : ℕ) → B x → d.taken x ≡ None → ⊥)
    (one : Grows c p d q e B) (two : Grows c q e r f B) where
  closed_by : (x l : ℕ) (o : Option ℕ) → e.taken x ≡ o → d.taken x ≡ None → f.taken x ≡ Some (suc l) → (f.met x ≡ 512) × AllMet c f l x
  closed_by x l None was none some = two.closed x l was some
  closed_by x l (Some k) was none some =
      let same : k ≡ suc l = same_Some k (suc l) (sym (two.keeps x k was) ∙ some) in
      let done = one.closed x l none (was ∙ ap Some same) in
      (two.still x k was (λ b. but x b none) ∙ done.0, λ i b. met_stays c e f two.keeps _ (done.1 i b))

  pub grows_more : Grows c p d r f B
  grows_more =
      record {
        keeps = λ x l a. two.keeps x l (one.keeps x l a);
        still = λ x l a off. two.still x l (one.keeps x l a) off ∙ one.still x l a off;
        settled = λ x l a off. (let s = two.settled x l a off in one.settled x l s.0 s.1);
        closed = λ x l none some. closed_by x l (e.taken x) refl none some;
      }

-- what leaves all frames leaves this one too
pub grows_less : (c : Case) (p : Plain) (d : Doing) (q : Plain) (e : Doing) (B : ℕ → Type 0) → Grows c p d q e (λ x. ⊥) → Grows c p d q e B
grows_less c p d q e B g = record { keeps = g.keeps; still = λ x l a off. g.still x l a (λ n. n); settled = g.settled; closed = g.closed }

-- the same kind word has as many type counts
pub counted_as : (a b : KindWord) → b ≡ a → (a.validated ≡ true → 0 < a.number) → b.validated ≡ true → 0 < b.number
counted_as a b same some = subst (λ (k : KindWord). k.validated ≡ true → 0 < k.number) (sym same) some

-- ---- an entry of frame x is met by a reference
module _ (c : Case) (p : Plain) (d : Doing) (x l : ℕ) (does : Doings c p d) (took : d.taken x ≡ Some l) (low : d.met x < 512) where
  pub most_more : (y : ℕ) → (met_more x d).met y ≤ 512
  most_more y =
      elim (cases_eq y x) [
        | inl e ↦ let h = ap (at x (suc (d.met x)) d.met) e ∙ at_here x (suc (d.met x)) d.met in omega arith
        | inr off ↦ let h = at_there x y (suc (d.met x)) d.met off in let m = does.most y in omega arith
      ]

  module _ (q : Plain) (kinds : q.kinds ≡ p.kinds) (cells : q.cells ≡ p.cells) (shares : (h : ℕ) → q.shares h ≡ more (total c (met_more x d) h) (c.before.shares h))
      (room : (h : ℕ) → h < c.machine.frames → share_count (q.shares h) ≤ c.machine.limit) where
    same_kind : (y : ℕ) → q.kinds y ≡ p.kinds y
    same_kind y = ap (λ (k : ℕ → KindWord). k y) kinds

    pub doings_met : Doings c q (met_more x d)
    doings_met =
        record {
          cells = λ g i. ap (λ (k : ℕ → ℕ → ℕ). k g i) cells ∙ does.cells g i;
          shares = shares;
          room = room;
          same = λ y none. subst (λ k. IsSame (c.before.kinds y) k) (sym (same_kind y)) (does.same y none);
          took = λ y k some. (let t = does.took y k some in record { dead = t.dead; tree = t.tree; low = t.low; inside = t.inside; kind = ap (λ (k : KindWord). k.kind) (same_kind y) ∙ t.kind; now = ap is_dead (same_kind y) ∙ t.now; counted = counted_as (p.kinds y) (q.kinds y) (same_kind y) t.counted });
          most = most_more;
        }

    pub grows_met : Grows c p d q (met_more x d) (λ y. y ≡ x)
    grows_met =
        record {
          keeps = λ y k some. some;
          still = λ y k some off. at_there x y (suc (d.met x)) d.met off;
          settled = λ y k some off. (some, sym (ap (λ (k : KindWord). k.validated) (same_kind y)) ∙ off);
          closed = λ y k none some. absurd (cc);
        }
