-- What follows from the laws of a place that texts go to.
use Rattle.std.proofs.Common.{◌≡◌, ℕ, ◌+◌, ◌<◌, List, [], sym, subst, arith}
use Rattle.texts.specs.Outs.{OutLaws}
use Rattle.texts.specs.Lines.{up_to}
use Rattle.texts.proofs.Texts.{up_none, up_more, length_up_more, up_le}

module _ {W : Type 0} {fits : W → List ℕ → Type 0} {wrote : W → List ℕ → W → Type 0} (laws : OutLaws fits wrote) where
  -- an equal text
  pub out_is : {a b : W} {u v : List ℕ} → u ≡ v → wrote a u b → wrote a v b
  out_is {a} {b} e w = let P : List ℕ → Type 0 = λ t. wrote a t b in subst P e w

  pub room_is : {a : W} {u v : List ℕ} → u ≡ v → fits a u → fits a v
  room_is {a} e f = let P : List ℕ → Type 0 = λ t. fits a t in subst P e f

  -- no text
  pub out_none : (a : W) (t : List ℕ) → fits a t → wrote a [] a
  out_none a t f = laws.none a (laws.shorter a [] t (omega arith) f)

  -- none, one more, and the room for one more of n texts
  pub out_first : (f : ℕ → List ℕ) (a : W) (t : List ℕ) → fits a t → wrote a (up_to f 0) a
  out_first f a t h = out_is (sym (up_none f)) (out_none a t h)

  pub out_next : (f : ℕ → List ℕ) (i : ℕ) (a b c : W) → wrote a (up_to f i) b → wrote b (f i) c → wrote a (up_to f (i + 1)) c
  out_next f i a b c p q = out_is (sym (up_more f i)) (laws.joined a b c (up_to f i) (f i) p q)

  pub out_room : (f : ℕ → List ℕ) (i n : ℕ) (a b : W) → i < n → fits a (up_to f n) → wrote a (up_to f i) b → fits b (f i)
  out_room f i n a b h room p = laws.rest a b (up_to f i) (f i) (up_to f n) (omega (arith, length_up_more f i, up_le f (i + 1) n (omega arith))) room p
