-- The OBJ lines of a block.
use Rattle.std.specs.Prelude.{ℕ, ◌+◌, ◌*◌, ◌/◌, ◌%◌, Bool, cond, List, [], ◌∷◌, ◌++◌, ◌==◌, nat_le, slice_index, slice_index_or}
use Rattle.geometry.specs.declared.span.Span.{Span}
use Rattle.geometry.specs.declared.cuboid.Cuboid.{Cuboid}
use Rattle.geometry.specs.declared.block.Block.{Block}
use Rattle.texts.specs.declared.line.LineKind.TheVariants.{Group, Vertex, Face}
use Rattle.texts.specs.Lines.{line_text, up_to}

-- the low or the high end of a stretch
abbrev pub end_on : Bool → Span → ℕ
end_on high s = cond high (s.at.0 + s.size.0) s.at.0

-- vertex v, from 0 to 7, has the high x if v is odd, the high y if v is 2, 3, 6 or 7, the high z from 4 on
abbrev pub vertex_line : Cuboid → ℕ → List ℕ
vertex_line c v = line_text Vertex (end_on (v % 2 == 1) c.x) (end_on (v / 2 % 2 == 1) c.y ∷ end_on (nat_le 4 v) c.z ∷ [])

-- the vertices of each face, counted from 1, in the order in which they go round it seen from outside
abbrev pub faces : List (List ℕ)
faces = (1 ∷ 3 ∷ 4 ∷ 2 ∷ []) ∷ (5 ∷ 6 ∷ 8 ∷ 7 ∷ []) ∷ (1 ∷ 2 ∷ 6 ∷ 5 ∷ []) ∷ (3 ∷ 7 ∷ 8 ∷ 4 ∷ []) ∷ (1 ∷ 5 ∷ 7 ∷ 3 ∷ []) ∷ (2 ∷ 4 ∷ 8 ∷ 6 ∷ []) ∷ []

-- the number on the line of face f for its k-th vertex, after d drawn blocks of eight vertices each
abbrev pub corner_number : ℕ → ℕ → ℕ → ℕ
corner_number d f k = slice_index (slice_index_or faces f []) k + 8 * d

-- the line of a face with these vertices after d drawn blocks
abbrev pub numbered_face : ℕ → List ℕ → List ℕ
numbered_face d vs = line_text Face (slice_index vs 0 + 8 * d) ((slice_index vs 1 + 8 * d) ∷ (slice_index vs 2 + 8 * d) ∷ (slice_index vs 3 + 8 * d) ∷ [])

-- the line of face f after d drawn blocks
abbrev pub face_line : ℕ → ℕ → List ℕ
face_line d f = line_text Face (corner_number d f 0) (corner_number d f 1 ∷ corner_number d f 2 ∷ corner_number d f 3 ∷ [])

-- the lines of a block after d drawn ones; a void block has none
unfoldable pub block_text : ℕ → Block → List ℕ
block_text d b = cond (b.material == 0) [] (line_text Group b.material [] ++ up_to (vertex_line b.cuboid) 8 ++ up_to (face_line d) 6)
