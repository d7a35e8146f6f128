-- The words of a text of words are those words.
use Rattle.std.proofs.Common.{◌≡◌, ◌≢◌, ℕ, List, [], ◌∷◌, ◌++◌, Bool, true, ltb, leb, refl, ap, ◌∙◌, arith, append-nil}
use Rattle.std.specs.List.{list_all, All}
use Rattle.std.proofs.lemmas.Bool.{ltb-true, leb-true, le-leb, ne_eqb}
use Rattle.std.proofs.lemmas.List.Folds.{list_all-append}
use Rattle.std.proofs.lemmas.List.Sums.{AllPass-from_list_all}
use Rattle.trace_lines.specs.Words.{words_of}
use Rattle.trace_lines.specs.Spelling.{spaced}
use Rattle.trace_lines.proofs.Decimals.{is_word}
use Rattle.trace_lines.proofs.Separators.{words_before}
use Rattle.trace_lines.proofs.DigitTable.{both_of as both}

alone : (w : List ℕ) → is_word w ≡ true → words_of w ≡ w ∷ []
alone [] h = refl
alone (c ∷ cs) h =
    let parts = both (ltb 32 c) (is_word cs) h in
    rw (ne_eqb c 32 (λ e. omega (arith, e, ltb-true 32 c parts.0)), alone cs parts.1) refl

pub words_again : (w : List ℕ) (ws : List (List ℕ)) → is_word w ≡ true → list_all is_word ws ≡ true → words_of (w ++ spaced ws) ≡ w ∷ ws
words_again w [] h hs = ap words_of (append-nil w) ∙ alone w h
words_again w (v ∷ ws) h hs =
    let parts = both (is_word v) (list_all is_word ws) hs in
    words_before w (v ++ spaced ws) ∙ rw (alone w h, words_again v ws parts.0 parts.1) refl

-- ---- the bytes of such a text

is_printed : List ℕ → Bool
is_printed bs = list_all (λ b. leb 32 b) bs

printed : (w : List ℕ) → is_word w ≡ true → is_printed w ≡ true
unfolding is_printed
printed [] h = refl
printed (c ∷ cs) h =
    let parts = both (ltb 32 c) (is_word cs) h in
    rw (le-leb 32 c (omega (arith, ltb-true 32 c parts.0)), printed cs parts.1) refl

printed_text : (w : List ℕ) (ws : List (List ℕ)) → is_word w ≡ true → list_all is_word ws ≡ true → is_printed (w ++ spaced ws) ≡ true
unfolding is_printed
printed_text w [] h hs = ap is_printed (append-nil w) ∙ printed w h
printed_text w (v ∷ ws) h hs =
    let parts = both (is_word v) (list_all is_word ws) hs in
    list_all-append (λ b. leb 32 b) w (32 ∷ (v ++ spaced ws)) ∙ rw (printed w h, printed_text v ws parts.0 parts.1) refl

pub no_feed : (w : List ℕ) (ws : List (List ℕ)) → is_word w ≡ true → list_all is_word ws ≡ true → All (λ b. b ≢ 10) (w ++ spaced ws)
unfolding is_printed
no_feed w ws h hs = λ k d lt e. omega (arith, e, leb-true 32 _ (AllPass-from_list_all (λ b. leb 32 b) (w ++ spaced ws) (printed_text w ws h hs) k d lt))
