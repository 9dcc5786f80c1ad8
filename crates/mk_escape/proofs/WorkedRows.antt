-- The definitions, computed: characters of each kind, by themselves and cut short.
use Rattle.std.proofs.Common.{◌≡◌, ℕ, List, [], ◌∷◌, ◌++◌, codes, refl}
use Rattle.mk_escape.specs.Escapes.{escaped}
use Rattle.mk_escape.specs.declared.Layout.TheVariants.{Kept, Escaped}

-- an escape sequence that wipes the screen; a tab and a line feed stay
wiped : escaped Kept (97 ∷ 27 ∷ 91 ∷ 50 ∷ 74 ∷ 9 ∷ 98 ∷ 10 ∷ []) ≡ codes "a\\033[2J\tb\n"
wiped = refl

-- in a name they do not
named : escaped Escaped (97 ∷ 9 ∷ 98 ∷ 10 ∷ 127 ∷ []) ≡ codes "a\\011b\\012\\177"
named = refl

-- C1 in UTF-8, and as a byte of its own
c1 : escaped Kept (194 ∷ 155 ∷ 65 ∷ 155 ∷ []) ≡ codes "\\302\\233A\\233"
c1 = refl

-- letters beyond ASCII stay: U+00E9, U+00C0, U+20AC, U+1F600
letters : escaped Kept (195 ∷ 169 ∷ 195 ∷ 128 ∷ 226 ∷ 130 ∷ 172 ∷ 240 ∷ 159 ∷ 152 ∷ 128 ∷ []) ≡ 195 ∷ 169 ∷ 195 ∷ 128 ∷ 226 ∷ 130 ∷ 172 ∷ 240 ∷ 159 ∷ 152 ∷ 128 ∷ []
letters = refl

-- U+202E, U+2066, U+061C, U+200F
turned : escaped Kept (226 ∷ 128 ∷ 174 ∷ 226 ∷ 129 ∷ 166 ∷ 216 ∷ 156 ∷ 226 ∷ 128 ∷ 143 ∷ []) ≡ codes "\\342\\200\\256\\342\\201\\246\\330\\234\\342\\200\\217"
turned = refl

-- no byte hides behind half a character, or behind one that is longer than it need be
half : escaped Kept (226 ∷ 27 ∷ 224 ∷ 128 ∷ 155 ∷ 240 ∷ 130 ∷ []) ≡ 226 ∷ codes "\\033" ++ (224 ∷ codes "\\200\\233" ++ (240 ∷ codes "\\202"))
half = refl
