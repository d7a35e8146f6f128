-- Which changes of a kind word bear the translations that its old one bore.
use Rattle.std.proofs.Common.{◌≡◌, ◌≢◌, ℕ, ◌≤◌, ◌⊎◌, inl, inr, Bool, true, false, refl, ◌∙◌, ap, arith, IsTrue, if◌then◌else◌}
use Rattle.std.proofs.lemmas.Bool.Decides.{nat_tests}
use Rattle.xp_words.specs.declared.kind.PageType.{PageType}
use Rattle.xp_words.specs.declared.kind.KindWord.{KindWord}
use Rattle.xp_words.specs.PageTypes.{type_number, is_none}
use Rattle.xp_board.specs.Readings.{is_dead, is_type}
use Rattle.xp_board.specs.KindSteps.{is_stale, begun_kind}
use Rattle.xp_board.specs.Reach.{Use, Table, Writes, Reads}
use Rattle.xp_board.specs.Fresh.{Matches, Bears}
use Rattle.xp_board.proofs.ReachAll.{IsLevel}

-- ---- types
matches_number : (s t : PageType) (u : Use) → type_number t ≡ type_number s → Matches s u → Matches t u
matches_number s t (Table level) e old = e ∙ old
matches_number s t Writes e old = e ∙ old
matches_number s t Reads e old = tt

pub matches_same : (s t : PageType) (u : Use) → t ≡ s → Matches s u → Matches t u
matches_same s t u e old = matches_number s t u (ap type_number e) old

-- a frame of no type has no use but to be read
none_matches : (t : PageType) (u : Use) → is_none t ≡ true → IsLevel u → u ≢ Reads → Matches t u → ⊥
none_matches t (Table level) none l n old = let lo = l.0 in let e : type_number t ≡ 0 = grind (arith, nat_tests) in absurd (omega arith)
none_matches t Writes none l n old = let e : type_number t ≡ 0 = grind (arith, nat_tests) in absurd (omega arith)
none_matches t Reads none l n old = n refl

-- ---- to read bears always
pub bears_read : (flushed : ℕ) (k : KindWord) (u : Use) → (u ≢ Reads → ⊥) → Bears flushed k u
bears_read flushed k u n = record { typed = λ e. absurd (n e); dead = λ e d. absurd (n e) }

-- type, mark and stamp stay, and it is not dead
pub bears_same : (flushed : ℕ) (k l : KindWord) (u : Use) → l.kind ≡ k.kind → l.unflushed ≡ k.unflushed → (k.unflushed ≡ true → l.number ≡ k.number) →
    is_dead l ≡ false → Bears flushed k u → Bears flushed l u
bears_same flushed k l u kind mark stamp live old =
    record {
      typed = λ n. elim (old.typed n) [
        | inl plain ↦ inl (mark ∙ plain.0, matches_same k.kind l.kind u kind plain.1)
        | inr marked ↦ inr (mark ∙ marked.0, let e = stamp marked.0 in let below = marked.1 in omega arith)
      ];
      dead = λ n d. absurd (cc);
    }

begun_typed : (flushed : ℕ) (k : KindWord) (want : PageType) (u : Use) (b : Bool) → is_stale k want ≡ b → IsLevel u → u ≢ Reads → flushed ≤ k.number →
    ((k.unflushed ≡ false) × Matches k.kind u) ⊎ ((k.unflushed ≡ true) × (flushed ≤ k.number)) →
    ((b ≡ false) × Matches want u) ⊎ ((b ≡ true) × (flushed ≤ (if b then k.number else 0)))
begun_typed flushed k want u true e level n stamp old = inr (refl, stamp)
begun_typed flushed k want u false e level n stamp (inr marked) = absurd (let t = marked.0 in let s : is_stale k want ≡ true = rw t refl in cc)
begun_typed flushed k want u false e level n stamp (inl plain) =
    elim (is_none k.kind) as (λ c. is_none k.kind ≡ c → ((false ≡ false) × Matches want u) ⊎ ((false ≡ true) × (flushed ≤ 0))) [
      | true ↦ λ t. absurd (none_matches k.kind u t level n plain.1)
      | false ↦ λ t. inl (refl, matches_number k.kind want u (let p = plain.0 in let same : is_type k.kind want ≡ true = grind arith in grind (arith, nat_tests)) plain.1)
    ] refl

-- from dead to work: the old stamp stays where the type changes
pub bears_begun : (flushed : ℕ) (k : KindWord) (want : PageType) (u : Use) → IsLevel u → IsTrue (is_dead k) → Bears flushed k u → Bears flushed (begun_kind k want) u
bears_begun flushed k want u level dead old =
    record {
      typed = λ n. begun_typed flushed k want u (is_stale k want) refl level n (old.dead n dead) (old.typed n);
      dead = λ n d. absurd (cc);
    }

-- dead, with a stamp that the vCPU was not flushed past
pub bears_dead : (flushed : ℕ) (k l : KindWord) (u : Use) → l.kind ≡ k.kind → l.unflushed ≡ k.unflushed → flushed ≤ l.number → Bears flushed k u → Bears flushed l u
bears_dead flushed k l u kind mark stamp old =
    record {
      typed = λ n. elim (old.typed n) [
        | inl plain ↦ inl (mark ∙ plain.0, matches_same k.kind l.kind u kind plain.1)
        | inr marked ↦ inr (mark ∙ marked.0, stamp)
      ];
      dead = λ n d. stamp;
    }

-- ---- one count less, of a live word
-- what is the same of the fields
pub record OneLess (k l : KindWord) : Type 0 where
  pub kind : l.kind ≡ k.kind
  pub unflushed : l.unflushed ≡ k.unflushed
  pub validated : l.validated ≡ k.validated
