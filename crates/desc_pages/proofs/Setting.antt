-- The GDT is set, or not: put together.
use Rattle.std.proofs.Common.{◌≡◌, ℕ, ◌≤◌, if◌then◌else◌, true, false, List, [], length, Some, None, Result, Ok, Err, refl, sym, ap, ◌∙◌, subst, arith, inl, append-nil}
use Rattle.std.proofs.lemmas.Bool.Decides.{nat_tests}
use Rattle.xp_words.specs.Machine.{IsMachine}
use Rattle.xp_words.specs.declared.reply.Refusal.{Refusal}
use Rattle.xp_words.specs.declared.reply.Refusal.TheVariants as refusals
use Rattle.xp_words.specs.declared.reply.Stop.{Stop}
use Rattle.xp_words.specs.declared.reply.Stop.TheVariants.{Refused}
use Rattle.xp_board.specs.declared.holdings.TypedReference.{TypedReference}
use Rattle.xp_board.specs.Told.{PortValue}
use Rattle.step_maker.specs.Holds.{FlushedSame, Rests, quiet}
use Rattle.step_maker.specs.Moves.{Came}
use Rattle.step_maker.proofs.Coming.{came_self, came_trans}
use Rattle.step_maker.proofs.Piecing.{serves_nothing}
use Rattle.step_maker.specs.Answers.{Serves, Stops}
use Rattle.step_maker.proofs.Resting.{still_rests}
use Rattle.desc_pages.specs.Gdt.{GdtSet, HoldsPages, IsGdtStop, NamesAll, SetsGdt, Takes, Untakes, barred, gdt_deeds, gdt_refusal, held, is_bad_gdt, least, of_gdt, own_domain, set, words_from}
use Rattle.desc_pages.specs.Pages.{IsDescStop}
use Rattle.desc_pages.proofs.Listing.{holds_pages}
use Rattle.desc_pages.proofs.ShortLists.{sets_short}

-- ---- by its numbers
pub refused_by : (entries : ℕ) (fs : List ℕ) → is_bad_gdt entries (length fs) ≡ true → gdt_refusal entries fs ≡ Some refusals.BadRange
refused_by entries fs bad = ap (λ b. if b then Some refusals.BadRange else None) bad

pub right_by : (entries : ℕ) (fs : List ℕ) → is_bad_gdt entries (length fs) ≡ false → gdt_refusal entries fs ≡ None
right_by entries fs good = ap (λ b. if b then Some refusals.BadRange else None) good

pub bad_stops : (v : PortValue) (d entries : ℕ) (fs : List ℕ) → gdt_refusal entries fs ≡ Some refusals.BadRange → Stops v v (of_gdt d entries fs) (Refused refusals.BadRange)
unfolding Stops
bad_stops v d entries fs is = inl is

-- ---- all of them were taken, and named
least_none : (n : ℕ) → least 0 n ≡ 0
least_none n = grind (arith, nat_tests)

module _ (v a : PortValue) (entries : ℕ) (fs : List ℕ) (rests : Rests v) (t : Takes v a fs (length fs)) where
  pub pages_in_hand : HoldsPages a fs (length fs)
  pages_in_hand = holds_pages v a fs (length fs) rests t a refl

  module _ (w : PortValue) (n : NamesAll a w fs 0) where
    pub gdt_came : Came v w
    gdt_came = came_trans v a w t.came n.came

    pub gdt_hand : FlushedSame v w
    gdt_hand =
        ap quiet n.hand ∙ ap (λ j. quiet (record a { holdings = record a.holdings { typed = held (own_domain a) fs j } })) (least_none (length fs))
        ∙ ap (λ (q : PortValue). quiet (record q { holdings = record q.holdings { typed = [] } })) t.hand
        ∙ ap (λ (ts : List TypedReference). quiet (record v { holdings = record v.holdings { typed = ts } })) (sym rests.empty.typed)

    same_vcpu : a.post.vcpu ≡ v.post.vcpu
    same_vcpu = ap (λ (q : PortValue). q.post.vcpu) t.hand

    pub gdt_serves : Serves v w (of_gdt (own_domain v) entries fs) (gdt_deeds v fs (Ok tt))
    gdt_serves =
        subst (λ s. Serves v w (of_gdt (own_domain v) entries fs) (words_from s fs 0 14)) same_vcpu
        (subst (λ ds. Serves v w (of_gdt (own_domain v) entries fs) ds) (append-nil (words_from a.post.vcpu fs 0 14)) (n.serves v (of_gdt (own_domain v) entries fs) [] (t.serves entries) refl))

    pub gdt_course : gdt_refusal entries fs ≡ None → SetsGdt v entries fs w (Ok tt)
    gdt_course right = set a w right t.course n.course

    pub sets : is_bad_gdt entries (length fs) ≡ false → GdtSet v w entries fs (Ok tt)
    sets good =
        record {
          came = gdt_came;
          serves = gdt_serves;
          stops = tt;
          kinds = tt;
          numbers = λ x is. absurd (let off = right_by entries fs good in cc);
          hand = gdt_hand;
          rests = still_rests v w rests gdt_hand;
          course = gdt_course (right_by entries fs good);
          short = sets_short v w entries fs (Ok tt) (gdt_course (right_by entries fs good));
        }

-- ---- by its numbers alone
pub bad_sets : (v : PortValue) (entries : ℕ) (fs : List ℕ) → is_bad_gdt entries (length fs) ≡ true → Rests v → GdtSet v v entries fs (Err (Refused refusals.BadRange))
bad_sets v entries fs bad rests =
    let is = refused_by entries fs bad in
    record {
      came = came_self v;
      serves = serves_nothing v (of_gdt (own_domain v) entries fs);
      stops = bad_stops v (own_domain v) entries fs is;
      kinds = tt;
      numbers = λ x on. ap (λ y. Err (Refused y)) (some_same (sym is ∙ on));
      hand = refl;
      rests = rests;
      course = barred refusals.BadRange is;
      short = sets_short v v entries fs (Err (Refused refusals.BadRange)) (barred refusals.BadRange is);
    }
  where
    some_same : {x y : Refusal} → Some x ≡ Some y → x ≡ y
    some_same is = cc

-- ---- one is not to be had
gdt_kind : (e : Stop) → IsDescStop e → IsGdtStop e
gdt_kind (Refused refusals.BadRange) is = tt
gdt_kind e is = is

pub untaken_sets : (v w : PortValue) (entries : ℕ) (fs : List ℕ) (e : Stop) {answer : Result (Unit {0}) Stop} → answer ≡ Err e → is_bad_gdt entries (length fs) ≡ false → Rests v → Untakes v w fs e → GdtSet v w entries fs answer
untaken_sets v w entries fs e is good rests n =
    let right = right_by entries fs good in
    rw is
    (record {
      came = n.came;
      serves = n.serves entries;
      stops = n.stops entries;
      kinds = gdt_kind e n.kinds;
      numbers = λ x on. absurd (let off = right in cc);
      hand = n.hand;
      rests = still_rests v w rests n.hand;
      course = n.course entries right;
      short = sets_short v w entries fs (Err e) (n.course entries right);
    })
