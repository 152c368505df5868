-- What is still wanted, against the brackets that are open.
use Rattle.std.proofs.Common.{◌≡◌, ℕ, ◌+◌, ◌-◌, Bool, true, false, cond, ltb, List, [], ◌∷◌, ◌++◌, Some, None, codes, Option, sym, refl, ap, ◌∙◌, subst, arith}
use Rattle.std.proofs.lemmas.Option.{none-some}
use Rattle.std.proofs.lemmas.List.{append-nil}
use Rattle.std.proofs.lemmas.Bool.{false≢true, eqb-true, and_parts}
use Rattle.std.specs.Str.{bytes_eq}
use Rattle.text.specs.Findings.{levels}
use Rattle.text.specs.Tokens.{Lexeme, opening, closing, number, word}
use Rattle.text.specs.Words.{is_axis}
use Rattle.grammar.proofs.Accepts.{then}
use Rattle.geometry.specs.Limits.{site}
use Rattle.grammar.specs.Wants.{Want, form, head, name, num, range, axis, shut, items, item, parts, more, part, low_of, at_opening, at_closing, at_number, at_word, head_wants, item_wants, part_wants, expand, onto, run}
use Rattle.grammar.specs.declared.state.FileKind.{FileKind}
use Rattle.grammar.specs.declared.state.FileKind.TheVariants.{Rules, Lots}
use Rattle.judge.proofs.Balanced.{balanced}

-- how many closing brackets each want brings beyond its opening ones
abbrev owe : Want → ℕ
owe (form k) = 0
owe (head k) = 1
owe (name n) = 0
owe (num lo hi) = 0
owe range = 0
owe axis = 0
owe shut = 1
owe (items k) = 0
owe (item k) = 1
owe parts = 1
owe more = 1
owe part = 1

abbrev owes : List Want → ℕ
owes [] = 0
owes (x ∷ xs) = owe x + owes xs

owes_append : (xs ys : List Want) → owes (xs ++ ys) ≡ owes xs + owes ys
owes_append [] ys = omega arith
owes_append (x ∷ xs) ys = let r = owes_append xs ys in omega arith

-- what one lexeme does to the number of open brackets
abbrev past : Lexeme → ℕ → ℕ
past opening d = d + 1
past closing d = d - 1
past (number w) d = d
past (word w) d = d

-- a and b are owed before and after it
abbrev Weighs : Lexeme → ℕ → ℕ → Type 0
Weighs opening a b = b ≡ a + 1
Weighs closing a b = a ≡ b + 1
Weighs (number w) a b = b ≡ a
Weighs (word w) a b = b ≡ a

-- the list of wants ends with one that brings a closing bracket

abbrev ends : Want → Bool
ends (form k) = false
ends (head k) = true
ends (name n) = false
ends (num lo hi) = false
ends range = false
ends axis = false
ends shut = true
ends (items k) = false
ends (item k) = false
ends parts = false
ends more = false
ends part = false

abbrev closes : List Want → Bool
closes [] = true
closes (x ∷ []) = ends x
closes (x ∷ y ∷ ys) = closes (y ∷ ys)

-- what holds of each list that may be left holds of the one that is

way : (P : List Want → Type 0) (b : Bool) (o p : Option (List Want)) (zs : List Want) → cond b o p ≡ Some zs
    → (o ≡ Some zs → P zs) → (p ≡ Some zs → P zs) → P zs
way P true o p zs e f g = f e
way P false o p zs e f g = g e

same : (P : List Want → Type 0) (ys zs : List Want) → P ys → ◌≡◌ {A = Option (List Want)} (Some ys) (Some zs) → P zs
same P ys zs p e = let q : ys ≡ zs = cc in subst P q p

-- one closing bracket is owed, by the last want
Owing : List Want → Type 0
Owing zs = (owes zs ≡ 1) × (closes zs ≡ true)

head_owing : (k : FileKind) (w : List ℕ) (zs : List Want) → head_wants k w ≡ Some zs → Owing zs
unfolding Owing
head_owing Rules w zs e =
    way Owing (bytes_eq w (codes "material")) _ _ zs e (same Owing _ zs (refl, refl))
    (λ e. way Owing (bytes_eq w (codes "rule")) _ _ zs e (same Owing _ zs (refl, refl)) (λ e. absurd (none-some zs e)))
head_owing Lots w zs e =
    way Owing (bytes_eq w (codes "lot")) _ _ zs e (same Owing _ zs (refl, refl)) (λ e. absurd (none-some zs e))

abbrev One : List Want → Type 0
One zs = owes zs ≡ 1

item_owes : (k : ℕ) (w : List ℕ) (zs : List Want) → item_wants k w ≡ Some zs → owes zs ≡ 1
item_owes k w zs e =
    way One (bytes_eq w (codes "when")) _ _ zs e
    (λ e. way One (ltb 0 k) _ _ zs e (same One _ zs refl) (λ e. absurd (none-some zs e)))
    (λ e. way One (bytes_eq w (codes "make")) _ _ zs e (same One _ zs refl)
    (λ e. way One (bytes_eq w (codes "use")) _ _ zs e (same One _ zs refl)
    (λ e. way One (bytes_eq w (codes "repeat")) _ _ zs e (same One _ zs refl)
    (λ e. way One (bytes_eq w (codes "split")) _ _ zs e (same One _ zs refl) (λ e. absurd (none-some zs e))))))

part_owes : (w : List ℕ) (zs : List Want) → part_wants w ≡ Some zs → owes zs ≡ 1
part_owes w zs e =
    way One (bytes_eq w (codes "fix")) _ _ zs e (same One _ zs refl)
    (λ e. way One (bytes_eq w (codes "float")) _ _ zs e (same One _ zs refl) (λ e. absurd (none-some zs e)))

-- each kind of lexeme, where it fits

w_open : (t : Lexeme) (ys zs : List Want) (a : ℕ) → at_opening ys t ≡ Some zs → owes ys ≡ a + 1 → Weighs t a (owes zs)
w_open opening ys zs a e h = same (λ v. owes v ≡ a + 1) ys zs h e
w_open closing ys zs a e h = absurd (none-some zs e)
w_open (number w) ys zs a e h = absurd (none-some zs e)
w_open (word w) ys zs a e h = absurd (none-some zs e)

w_close : (t : Lexeme) (ys zs : List Want) (a : ℕ) → at_closing ys t ≡ Some zs → a ≡ owes ys + 1 → Weighs t a (owes zs)
w_close opening ys zs a e h = absurd (none-some zs e)
w_close closing ys zs a e h = same (λ v. a ≡ owes v + 1) ys zs h e
w_close (number w) ys zs a e h = absurd (none-some zs e)
w_close (word w) ys zs a e h = absurd (none-some zs e)

w_number : (t : Lexeme) (f : List ℕ → List Want) (zs : List Want) (a : ℕ) → at_number f t ≡ Some zs → ((w : List ℕ) → owes (f w) ≡ a) → Weighs t a (owes zs)
w_number opening f zs a e h = absurd (none-some zs e)
w_number closing f zs a e h = absurd (none-some zs e)
w_number (number w) f zs a e h = same (λ v. owes v ≡ a) (f w) zs (h w) e
w_number (word w) f zs a e h = absurd (none-some zs e)

w_word : (t : Lexeme) (f : List ℕ → Option (List Want)) (zs : List Want) (a : ℕ) → at_word f t ≡ Some zs
    → ((w : List ℕ) → f w ≡ Some zs → owes zs ≡ a) → Weighs t a (owes zs)
w_word opening f zs a e h = absurd (none-some zs e)
w_word closing f zs a e h = absurd (none-some zs e)
w_word (number w) f zs a e h = absurd (none-some zs e)
w_word (word w) f zs a e h = h w e

weighs : (x : Want) (t : Lexeme) (zs : List Want) → expand x t ≡ Some zs → Weighs t (owe x) (owes zs)
unfolding Owing
weighs (form k) t zs e = w_open t (head k ∷ []) zs 0 e refl
weighs (head k) t zs e = w_word t (head_wants k) zs 1 e (λ w q. (head_owing k w zs q).0)
weighs (name n) t zs e = w_word t (λ w. Some []) zs 0 e (λ w q. same (λ v. owes v ≡ 0) [] zs refl q)
weighs (num lo hi) t zs e = w_number t (λ w. []) zs 0 e (λ w. refl)
weighs range t zs e = w_number t (λ w. num (low_of w) site ∷ []) zs 0 e (λ w. refl)
weighs axis t zs e =
    w_word t (λ w. cond (is_axis w) (Some []) None) zs 0 e
    (λ w q. way (λ v. owes v ≡ 0) (is_axis w) _ _ zs q (same (λ v. owes v ≡ 0) [] zs refl) (λ e. absurd (none-some zs e)))
weighs shut t zs e = w_close t [] zs 1 e refl
weighs (items k) t zs e = w_open t (item k ∷ []) zs 0 e refl
weighs (item k) t zs e = w_word t (item_wants k) zs 1 e (λ w q. item_owes k w zs q)
weighs parts t zs e = w_open t (part ∷ more ∷ []) zs 1 e refl
weighs more opening zs e = w_open opening (part ∷ more ∷ []) zs 1 e refl
weighs more closing zs e = w_close closing [] zs 1 e refl
weighs more (number w) zs e = absurd (none-some zs e)
weighs more (word w) zs e = absurd (none-some zs e)
weighs part t zs e = w_word t part_wants zs 1 e (λ w q. part_owes w zs q)

-- one lexeme more leaves what is owed open
after : (t : Lexeme) (ts : List Lexeme) (a b o : ℕ) → Weighs t a b → balanced (a + o) (t ∷ ts) ≡ true → balanced (b + o) ts ≡ true
after opening ts a b o h e =
    let q : b + o ≡ a + o + 1 = omega arith in ap (λ d. balanced d ts) q ∙ (and_parts (ltb (a + o) levels) _ e).1
after closing ts a b o h e =
    let q : b + o ≡ a + o - 1 = omega arith in ap (λ d. balanced d ts) q ∙ (and_parts (ltb 0 (a + o)) _ e).1
after (number w) ts a b o h e = let q : b + o ≡ a + o = omega arith in ap (λ d. balanced d ts) q ∙ e
after (word w) ts a b o h e = let q : b + o ≡ a + o = omega arith in ap (λ d. balanced d ts) q ∙ e

bal_run : (ts : List Lexeme) (xs ys : List Want) → balanced (owes xs) ts ≡ true → run xs ts ≡ Some ys → owes ys ≡ 0
bal_run [] xs ys b e = let q : xs ≡ ys = cc in sym (ap owes q) ∙ eqb-true (owes xs) 0 b
bal_run (t ∷ ts) [] ys b e = absurd (none-some ys e)
bal_run (t ∷ ts) (x ∷ xs) ys b e =
    (elim (expand x t) as (λ o. expand x t ≡ o → then (onto o xs) ts ≡ Some ys → owes ys ≡ 0) [
      | None ↦ λ q e. absurd (none-some ys e)
      | Some zs ↦ λ q e.
          bal_run ts (zs ++ xs) ys
          (ap (λ d. balanced d ts) (owes_append zs xs) ∙ after t ts (owe x) (owes zs) (owes xs) (weighs x t zs q) b) e
    ]) refl e

-- the last want stays one that closes

closes_append : (zs : List Want) (y : Want) (ys : List Want) → closes (zs ++ y ∷ ys) ≡ closes (y ∷ ys)
closes_append [] y ys = refl
closes_append (z ∷ []) y ys = refl
closes_append (z ∷ x ∷ zs) y ys = closes_append (x ∷ zs) y ys

shut_closes : (t : Lexeme) (zs : List Want) → at_closing [] t ≡ Some zs → closes zs ≡ true
shut_closes opening zs e = absurd (none-some zs e)
shut_closes closing zs e = same (λ v. closes v ≡ true) [] zs refl e
shut_closes (number w) zs e = absurd (none-some zs e)
shut_closes (word w) zs e = absurd (none-some zs e)

head_closes : (k : FileKind) (t : Lexeme) (zs : List Want) → at_word (head_wants k) t ≡ Some zs → closes zs ≡ true
unfolding Owing
head_closes k opening zs e = absurd (none-some zs e)
head_closes k closing zs e = absurd (none-some zs e)
head_closes k (number w) zs e = absurd (none-some zs e)
head_closes k (word w) zs e = (head_owing k w zs e).1

closes_one : (x : Want) (t : Lexeme) (zs : List Want) → ends x ≡ true → expand x t ≡ Some zs → closes zs ≡ true
closes_one (form k) t zs h e = absurd (false≢true h)
closes_one (head k) t zs h e = head_closes k t zs e
closes_one (name n) t zs h e = absurd (false≢true h)
closes_one (num lo hi) t zs h e = absurd (false≢true h)
closes_one range t zs h e = absurd (false≢true h)
closes_one axis t zs h e = absurd (false≢true h)
closes_one shut t zs h e = shut_closes t zs e
closes_one (items k) t zs h e = absurd (false≢true h)
closes_one (item k) t zs h e = absurd (false≢true h)
closes_one parts t zs h e = absurd (false≢true h)
closes_one more t zs h e = absurd (false≢true h)
closes_one part t zs h e = absurd (false≢true h)

closes_step : (x : Want) (xs : List Want) (t : Lexeme) (zs : List Want) → closes (x ∷ xs) ≡ true → expand x t ≡ Some zs → closes (zs ++ xs) ≡ true
closes_step x [] t zs h e = ap closes (append-nil zs) ∙ closes_one x t zs h e
closes_step x (y ∷ ys) t zs h e = closes_append zs y ys ∙ h

closes_run : (ts : List Lexeme) (xs ys : List Want) → closes xs ≡ true → run xs ts ≡ Some ys → closes ys ≡ true
closes_run [] xs ys h e = let q : xs ≡ ys = cc in sym (ap closes q) ∙ h
closes_run (t ∷ ts) [] ys h e = absurd (none-some ys e)
closes_run (t ∷ ts) (x ∷ xs) ys h e =
    (elim (expand x t) as (λ o. expand x t ≡ o → then (onto o xs) ts ≡ Some ys → closes ys ≡ true)
    [ None ↦ λ q e. absurd (none-some ys e) | Some zs ↦ λ q e. closes_run ts (zs ++ xs) ys (closes_step x xs t zs h q) e ]) refl e

ends_owe : (x : Want) → ends x ≡ true → owe x ≡ 1
ends_owe (form k) h = absurd (false≢true h)
ends_owe (head k) h = refl
ends_owe (name n) h = absurd (false≢true h)
ends_owe (num lo hi) h = absurd (false≢true h)
ends_owe range h = absurd (false≢true h)
ends_owe axis h = absurd (false≢true h)
ends_owe shut h = refl
ends_owe (items k) h = absurd (false≢true h)
ends_owe (item k) h = absurd (false≢true h)
ends_owe parts h = absurd (false≢true h)
ends_owe more h = absurd (false≢true h)
ends_owe part h = absurd (false≢true h)

finished : (ys : List Want) → closes ys ≡ true → owes ys ≡ 0 → ys ≡ []
finished [] h e = refl
finished (x ∷ []) h e = absurd (omega (arith, ends_owe x h))
finished (x ∷ y ∷ ys) h e =
    let q : y ∷ ys ≡ [] = finished (y ∷ ys) h (omega arith) in
    absurd (let z : ◌≡◌ {A = ℕ} 0 1 = cc in omega arith)

-- lexemes that fit and whose brackets match leave nothing to want
pub nothing_left : (k : FileKind) (ts : List Lexeme) (ys : List Want) → (ts ≡ [] → ⊥) → balanced 0 ts ≡ true → run (form k ∷ []) ts ≡ Some ys → ys ≡ []
nothing_left k [] ys n b e = absurd (n refl)
nothing_left k (opening ∷ ts) ys n b e = finished ys (closes_run ts (head k ∷ []) ys refl e) (bal_run (opening ∷ ts) (form k ∷ []) ys b e)
nothing_left k (closing ∷ ts) ys n b e = absurd (none-some ys e)
nothing_left k (number w ∷ ts) ys n b e = absurd (none-some ys e)
nothing_left k (word w ∷ ts) ys n b e = absurd (none-some ys e)
