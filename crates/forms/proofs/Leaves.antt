-- Where a token of one kind is wanted and another stands, or none, nothing can go on.
use Rattle.std.proofs.Common.{◌≡◌, ℕ, Bool, true, false, cond, eqb, List, [], ◌∷◌, Some, None, Option, sym, refl, ap, arith, Bor}
use Rattle.text.specs.Takes.{Took as Taken, open_at, close_at, word_at, number_at}
use Rattle.text.specs.Tokens.{Lexeme, opening, closing, number, word, tokens_left}
use Rattle.text.specs.declared.placed.Placed.{Placed}
use Rattle.text.specs.declared.tokens.Tokens.{Tokens}
use Rattle.grammar.specs.Forms.{plain}
use Rattle.grammar.specs.Wants.{name, num, axis, shut, parts, part}
use Rattle.grammar.specs.declared.state.Naming.{Naming}
use Rattle.forms.specs.Clean.{Dead}
use Rattle.forms.specs.Taken.{TookOpen, TookClose, TookName}
use Rattle.forms.specs.Told.{Name}

-- the next lexeme is of no such kind
abbrev pub Other : {X : Type 0} → (X → Lexeme) → List (Lexeme × ℕ) → Type 0
Other {X} kind us = (x : X) (c : ℕ) (vs : List (Lexeme × ℕ)) → us ≡ (kind x, c) ∷ vs → ⊥

-- a reference to these bytes
abbrev pub lent : List ℕ → Bor (List ℕ)
lent w = record { ref_ptr = (0, 0); now = w }

no_open : (us : List (Lexeme × ℕ)) → Other open_at us → Dead parts us
no_open [] h k xs = refl
no_open ((opening, c) ∷ us) h k xs = absurd (h tt c us refl)
no_open ((closing, c) ∷ us) h k xs = refl
no_open ((number w, c) ∷ us) h k xs = refl
no_open ((word w, c) ∷ us) h k xs = refl

no_close : (us : List (Lexeme × ℕ)) → Other close_at us → Dead shut us
no_close [] h k xs = refl
no_close ((opening, c) ∷ us) h k xs = refl
no_close ((closing, c) ∷ us) h k xs = absurd (h tt c us refl)
no_close ((number w, c) ∷ us) h k xs = refl
no_close ((word w, c) ∷ us) h k xs = refl

no_name : (n : Naming) (us : List (Lexeme × ℕ)) → Other word_at us → Dead (name n) us
no_name n [] h k xs = refl
no_name n ((opening, c) ∷ us) h k xs = refl
no_name n ((closing, c) ∷ us) h k xs = refl
no_name n ((number w, c) ∷ us) h k xs = refl
no_name n ((word w, c) ∷ us) h k xs = absurd (h (lent w) c us refl)

pub no_number : (low high : ℕ) (us : List (Lexeme × ℕ)) → Other number_at us → Dead (num low high) us
no_number low high [] h k xs = refl
no_number low high ((opening, c) ∷ us) h k xs = refl
no_number low high ((closing, c) ∷ us) h k xs = refl
no_number low high ((number w, c) ∷ us) h k xs = absurd (h (lent w) c us refl)
no_number low high ((word w, c) ∷ us) h k xs = refl

pub no_axis : (us : List (Lexeme × ℕ)) → Other word_at us → Dead axis us
no_axis [] h k xs = refl
no_axis ((opening, c) ∷ us) h k xs = refl
no_axis ((closing, c) ∷ us) h k xs = refl
no_axis ((number w, c) ∷ us) h k xs = refl
no_axis ((word w, c) ∷ us) h k xs = absurd (h (lent w) c us refl)

-- both ways end
either_way : (b : Bool) → cond b false false ≡ false
either_way true = refl
either_way false = refl

pub no_part : (us : List (Lexeme × ℕ)) → Other word_at us → Dead part us
no_part [] h k xs = refl
no_part ((opening, c) ∷ us) h k xs = either_way (eqb k 0)
no_part ((closing, c) ∷ us) h k xs = either_way (eqb k 0)
no_part ((number w, c) ∷ us) h k xs = either_way (eqb k 0)
no_part ((word w, c) ∷ us) h k xs = absurd (h (lent w) c us refl)

-- what is taken of one kind is what is wanted

pub open_wanted : (s t : Tokens) (r : Option (Placed (Unit {0}))) → Taken open_at s t r → TookOpen s t r
open_wanted s t (Some p) h = record { is = h.0; line = h.1; kept = h.2 }
open_wanted s t None h = no_open (tokens_left s) h.0

pub close_wanted : (s t : Tokens) (r : Option (Placed (Unit {0}))) → Taken close_at s t r → TookClose s t r
close_wanted s t (Some p) h = record { is = h.0; line = h.1; kept = h.2 }
close_wanted s t None h = no_close (tokens_left s) h.0

pub name_wanted : (s t : Tokens) (r : Option Name) → Taken word_at s t r → TookName s t r
name_wanted s t (Some p) h = record { is = h.0; line = h.1; kept = h.2 }
name_wanted s t None h = λ n. no_name n (tokens_left s) h.0

-- lexemes that begin otherwise

pub not_open : (us : List (Lexeme × ℕ)) (ts : List Lexeme) → Other open_at us → plain us ≡ opening ∷ ts → ⊥
not_open [] ts h e = let z : ◌≡◌ {A = ℕ} 0 1 = cc in omega arith
not_open ((opening, c) ∷ us) ts h e = h tt c us refl
not_open ((closing, c) ∷ us) ts h e = let z : ◌≡◌ {A = ℕ} 0 1 = cc in omega arith
not_open ((number w, c) ∷ us) ts h e = let z : ◌≡◌ {A = ℕ} 0 1 = cc in omega arith
not_open ((word w, c) ∷ us) ts h e = let z : ◌≡◌ {A = ℕ} 0 1 = cc in omega arith

not_word : (v : List ℕ) (us : List (Lexeme × ℕ)) (ts : List Lexeme) → Other word_at us → plain us ≡ word v ∷ ts → ⊥
not_word v [] ts h e = let z : ◌≡◌ {A = ℕ} 0 1 = cc in omega arith
not_word v ((opening, c) ∷ us) ts h e = let z : ◌≡◌ {A = ℕ} 0 1 = cc in omega arith
not_word v ((closing, c) ∷ us) ts h e = let z : ◌≡◌ {A = ℕ} 0 1 = cc in omega arith
not_word v ((number w, c) ∷ us) ts h e = let z : ◌≡◌ {A = ℕ} 0 1 = cc in omega arith
not_word v ((word w, c) ∷ us) ts h e = h (lent w) c us refl

pub not_head : (v : List ℕ) (c : ℕ) (us vs : List (Lexeme × ℕ)) (ts : List Lexeme) → us ≡ (opening, c) ∷ vs → Other word_at vs → plain us ≡ opening ∷ word v ∷ ts → ⊥
not_head v c us vs ts e h q =
    let p : opening ∷ plain vs ≡ plain us = ap plain (sym e) in
    let r : plain vs ≡ word v ∷ ts = cc in
    not_word v vs ts h r
