-- Random texts and whether they may be values, words, targets, names and commands. Made by
-- `tests/definitions/argument_rows.py 500 1`.
use Rattle.std.proofs.Common.{◌≡◌, refl, ℕ, List, [], ◌∷◌, Bool, true, false}
use Rattle.std.specs.Prelude.{codes}
use Rattle.mk_class.specs.Arguments.{is_value, is_word, is_target, is_name, is_command}

-- whether a text may be a value, a word, a target, a name and a command
abbrev allowed : List ℕ → List Bool
allowed t = is_value t ∷ is_word t ∷ is_target t ∷ is_name t ∷ is_command t ∷ []

row_0 : allowed ([]) ≡ true ∷ false ∷ false ∷ false ∷ true ∷ []
row_0 = refl

row_1 : allowed (codes ";|`") ≡ true ∷ false ∷ false ∷ false ∷ true ∷ []
row_1 = refl

row_2 : allowed (codes "-") ≡ true ∷ true ∷ true ∷ true ∷ true ∷ []
row_2 = refl

row_3 : allowed (codes ":$\\a") ≡ true ∷ false ∷ false ∷ false ∷ true ∷ []
row_3 = refl

row_4 : allowed (codes "é@") ≡ true ∷ true ∷ true ∷ false ∷ true ∷ []
row_4 = refl

row_5 : allowed ([]) ≡ true ∷ false ∷ false ∷ false ∷ true ∷ []
row_5 = refl

row_6 : allowed ([]) ≡ true ∷ false ∷ false ∷ false ∷ true ∷ []
row_6 = refl

row_7 : allowed (codes "%.ca@-${c}") ≡ true ∷ true ∷ true ∷ false ∷ true ∷ []
row_7 = refl

row_8 : allowed (codes "éb?") ≡ true ∷ true ∷ true ∷ false ∷ true ∷ []
row_8 = refl

row_9 : allowed (codes "&\\#@") ≡ true ∷ false ∷ false ∷ false ∷ true ∷ []
row_9 = refl

row_10 : allowed (codes "@=${b#") ≡ false ∷ false ∷ false ∷ false ∷ true ∷ []
row_10 = refl

row_11 : allowed (codes "`-$x{") ≡ true ∷ true ∷ true ∷ false ∷ true ∷ []
row_11 = refl

row_12 : allowed (codes "x.o ") ≡ false ∷ false ∷ false ∷ false ∷ true ∷ []
row_12 = refl

row_13 : allowed (codes "+:+[$$") ≡ true ∷ false ∷ false ∷ false ∷ true ∷ []
row_13 = refl

row_14 : allowed (codes "&+\0$ ") ≡ false ∷ false ∷ false ∷ false ∷ false ∷ []
row_14 = refl

row_15 : allowed (codes "\\\0#") ≡ false ∷ false ∷ false ∷ false ∷ false ∷ []
row_15 = refl

row_16 : allowed (codes "\\#~") ≡ true ∷ false ∷ false ∷ false ∷ true ∷ []
row_16 = refl

row_17 : allowed (codes "\n.;[+") ≡ false ∷ false ∷ false ∷ false ∷ false ∷ []
row_17 = refl

row_18 : allowed (codes "%.c") ≡ true ∷ true ∷ true ∷ false ∷ true ∷ []
row_18 = refl

row_19 : allowed (codes "&é") ≡ true ∷ true ∷ true ∷ false ∷ true ∷ []
row_19 = refl

row_20 : allowed ([]) ≡ true ∷ false ∷ false ∷ false ∷ true ∷ []
row_20 = refl

row_21 : allowed (codes "$ $ \0`") ≡ false ∷ false ∷ false ∷ false ∷ false ∷ []
row_21 = refl

row_22 : allowed (codes "9a$$9") ≡ true ∷ true ∷ true ∷ false ∷ true ∷ []
row_22 = refl

row_23 : allowed (codes "@\0+\t") ≡ false ∷ false ∷ false ∷ false ∷ false ∷ []
row_23 = refl

row_24 : allowed (codes "\t=$([") ≡ false ∷ false ∷ false ∷ false ∷ true ∷ []
row_24 = refl

row_25 : allowed (codes "a\r+%.c?") ≡ false ∷ false ∷ false ∷ false ∷ false ∷ []
row_25 = refl

row_26 : allowed (codes ":") ≡ true ∷ false ∷ false ∷ false ∷ true ∷ []
row_26 = refl

row_27 : allowed (codes "\n$#\\#") ≡ false ∷ false ∷ false ∷ false ∷ false ∷ []
row_27 = refl

row_28 : allowed (codes "-x.o/.") ≡ true ∷ true ∷ true ∷ false ∷ true ∷ []
row_28 = refl

row_29 : allowed ([]) ≡ true ∷ false ∷ false ∷ false ∷ true ∷ []
row_29 = refl

row_30 : allowed (codes "\\$ =$\\") ≡ false ∷ false ∷ false ∷ false ∷ false ∷ []
row_30 = refl

row_31 : allowed (codes "${c}") ≡ true ∷ true ∷ true ∷ false ∷ true ∷ []
row_31 = refl

row_32 : allowed (codes "Z/b$$") ≡ true ∷ true ∷ true ∷ false ∷ true ∷ []
row_32 = refl

row_33 : allowed (codes "Z^") ≡ true ∷ true ∷ true ∷ false ∷ true ∷ []
row_33 = refl

row_34 : allowed ([]) ≡ true ∷ false ∷ false ∷ false ∷ true ∷ []
row_34 = refl

row_35 : allowed (codes "\\$(") ≡ false ∷ false ∷ false ∷ false ∷ true ∷ []
row_35 = refl

row_36 : allowed (codes "Z._b") ≡ true ∷ true ∷ true ∷ true ∷ true ∷ []
row_36 = refl

row_37 : allowed (codes "%.cZ") ≡ true ∷ true ∷ true ∷ false ∷ true ∷ []
row_37 = refl

row_38 : allowed (codes "@${=~}") ≡ true ∷ true ∷ true ∷ false ∷ true ∷ []
row_38 = refl

row_39 : allowed ([]) ≡ true ∷ false ∷ false ∷ false ∷ true ∷ []
row_39 = refl

row_40 : allowed (codes ".-$$") ≡ true ∷ true ∷ true ∷ false ∷ true ∷ []
row_40 = refl

row_41 : allowed ([]) ≡ true ∷ false ∷ false ∷ false ∷ true ∷ []
row_41 = refl

row_42 : allowed (codes "+/$\\:b") ≡ true ∷ false ∷ false ∷ false ∷ true ∷ []
row_42 = refl

row_43 : allowed (codes "$(a b)Zé") ≡ true ∷ true ∷ true ∷ false ∷ true ∷ []
row_43 = refl

row_44 : allowed (codes "@+^") ≡ true ∷ true ∷ true ∷ false ∷ true ∷ []
row_44 = refl

row_45 : allowed (codes "{") ≡ true ∷ true ∷ true ∷ false ∷ true ∷ []
row_45 = refl

row_46 : allowed (codes ";@?`") ≡ true ∷ false ∷ false ∷ false ∷ true ∷ []
row_46 = refl

row_47 : allowed (codes "$(a b)$$.${c}${c}") ≡ true ∷ true ∷ true ∷ false ∷ true ∷ []
row_47 = refl

row_48 : allowed (codes ")%.c/9)") ≡ true ∷ true ∷ true ∷ false ∷ true ∷ []
row_48 = refl

row_49 : allowed ([]) ≡ true ∷ false ∷ false ∷ false ∷ true ∷ []
row_49 = refl

row_50 : allowed (codes "${c}#") ≡ false ∷ false ∷ false ∷ false ∷ true ∷ []
row_50 = refl

row_51 : allowed (codes "a") ≡ true ∷ true ∷ true ∷ true ∷ true ∷ []
row_51 = refl

row_52 : allowed ([]) ≡ true ∷ false ∷ false ∷ false ∷ true ∷ []
row_52 = refl

row_53 : allowed (codes "$#") ≡ true ∷ true ∷ true ∷ false ∷ true ∷ []
row_53 = refl

row_54 : allowed (codes "\\$+Z\r$$") ≡ false ∷ false ∷ false ∷ false ∷ false ∷ []
row_54 = refl

row_55 : allowed (codes "$#") ≡ true ∷ true ∷ true ∷ false ∷ true ∷ []
row_55 = refl

row_56 : allowed (codes "$ $$&") ≡ true ∷ false ∷ false ∷ false ∷ true ∷ []
row_56 = refl

row_57 : allowed (codes "-_%.cx.oa") ≡ true ∷ true ∷ true ∷ false ∷ true ∷ []
row_57 = refl

row_58 : allowed (codes "${b${c}") ≡ false ∷ false ∷ false ∷ false ∷ true ∷ []
row_58 = refl

row_59 : allowed (codes "$#%.c") ≡ true ∷ true ∷ true ∷ false ∷ true ∷ []
row_59 = refl

row_60 : allowed (codes "$(") ≡ false ∷ false ∷ false ∷ false ∷ true ∷ []
row_60 = refl

row_61 : allowed (codes "\\#\t^") ≡ true ∷ false ∷ false ∷ false ∷ true ∷ []
row_61 = refl

row_62 : allowed (codes "\\_éZ") ≡ true ∷ false ∷ false ∷ false ∷ true ∷ []
row_62 = refl

row_63 : allowed (codes "Z") ≡ true ∷ true ∷ true ∷ true ∷ true ∷ []
row_63 = refl

row_64 : allowed (codes "$(") ≡ false ∷ false ∷ false ∷ false ∷ true ∷ []
row_64 = refl

row_65 : allowed (codes "+$\n ") ≡ false ∷ false ∷ false ∷ false ∷ false ∷ []
row_65 = refl

row_66 : allowed (codes "\\$\\") ≡ false ∷ false ∷ false ∷ false ∷ false ∷ []
row_66 = refl

row_67 : allowed (codes "&%.c$ \\#-") ≡ true ∷ false ∷ false ∷ false ∷ true ∷ []
row_67 = refl

row_68 : allowed (codes "_\r$(a b)") ≡ false ∷ false ∷ false ∷ false ∷ false ∷ []
row_68 = refl

row_69 : allowed (codes "x.o\\$") ≡ false ∷ false ∷ false ∷ false ∷ true ∷ []
row_69 = refl

row_70 : allowed (codes "_$#\\#") ≡ true ∷ false ∷ false ∷ false ∷ true ∷ []
row_70 = refl

row_71 : allowed ([]) ≡ true ∷ false ∷ false ∷ false ∷ true ∷ []
row_71 = refl

row_72 : allowed (codes "${$#") ≡ false ∷ false ∷ false ∷ false ∷ true ∷ []
row_72 = refl

row_73 : allowed ([]) ≡ true ∷ false ∷ false ∷ false ∷ true ∷ []
row_73 = refl

row_74 : allowed (codes "-Z") ≡ true ∷ true ∷ true ∷ true ∷ true ∷ []
row_74 = refl

row_75 : allowed ([]) ≡ true ∷ false ∷ false ∷ false ∷ true ∷ []
row_75 = refl

row_76 : allowed ([]) ≡ true ∷ false ∷ false ∷ false ∷ true ∷ []
row_76 = refl

row_77 : allowed ([]) ≡ true ∷ false ∷ false ∷ false ∷ true ∷ []
row_77 = refl

row_78 : allowed ([]) ≡ true ∷ false ∷ false ∷ false ∷ true ∷ []
row_78 = refl

row_79 : allowed (codes "-Zbx.o") ≡ true ∷ true ∷ true ∷ true ∷ true ∷ []
row_79 = refl

row_80 : allowed (codes "Z") ≡ true ∷ true ∷ true ∷ true ∷ true ∷ []
row_80 = refl

row_81 : allowed ([]) ≡ true ∷ false ∷ false ∷ false ∷ true ∷ []
row_81 = refl

row_82 : allowed (codes "!${\\#") ≡ false ∷ false ∷ false ∷ false ∷ true ∷ []
row_82 = refl

row_83 : allowed (codes "}-/") ≡ true ∷ true ∷ true ∷ false ∷ true ∷ []
row_83 = refl

row_84 : allowed ([]) ≡ true ∷ false ∷ false ∷ false ∷ true ∷ []
row_84 = refl

row_85 : allowed (codes "$x$(a b)") ≡ true ∷ true ∷ true ∷ false ∷ true ∷ []
row_85 = refl

row_86 : allowed (codes "}\0_") ≡ false ∷ false ∷ false ∷ false ∷ false ∷ []
row_86 = refl

row_87 : allowed (codes "$(a b)x.o") ≡ true ∷ true ∷ true ∷ false ∷ true ∷ []
row_87 = refl

row_88 : allowed (codes "$$") ≡ true ∷ true ∷ true ∷ false ∷ true ∷ []
row_88 = refl

row_89 : allowed (codes "~|[\t") ≡ false ∷ false ∷ false ∷ false ∷ true ∷ []
row_89 = refl

row_90 : allowed (codes "/)$$\\") ≡ false ∷ false ∷ false ∷ false ∷ false ∷ []
row_90 = refl

row_91 : allowed (codes ".;") ≡ true ∷ false ∷ false ∷ false ∷ true ∷ []
row_91 = refl

row_92 : allowed (codes "${c}.9-") ≡ true ∷ true ∷ true ∷ false ∷ true ∷ []
row_92 = refl

row_93 : allowed ([]) ≡ true ∷ false ∷ false ∷ false ∷ true ∷ []
row_93 = refl

row_94 : allowed (codes "$ )") ≡ true ∷ false ∷ false ∷ false ∷ true ∷ []
row_94 = refl

row_95 : allowed ([]) ≡ true ∷ false ∷ false ∷ false ∷ true ∷ []
row_95 = refl

row_96 : allowed (codes "$\\.\\@") ≡ true ∷ false ∷ false ∷ false ∷ true ∷ []
row_96 = refl

row_97 : allowed (codes "-") ≡ true ∷ true ∷ true ∷ true ∷ true ∷ []
row_97 = refl

row_98 : allowed (codes "/b$xb") ≡ true ∷ true ∷ true ∷ false ∷ true ∷ []
row_98 = refl

row_99 : allowed ([]) ≡ true ∷ false ∷ false ∷ false ∷ true ∷ []
row_99 = refl

row_100 : allowed (codes "&|") ≡ true ∷ false ∷ false ∷ false ∷ true ∷ []
row_100 = refl

row_101 : allowed (codes "-") ≡ true ∷ true ∷ true ∷ true ∷ true ∷ []
row_101 = refl

row_102 : allowed (codes "_+") ≡ true ∷ true ∷ true ∷ false ∷ true ∷ []
row_102 = refl

row_103 : allowed (codes "$x") ≡ true ∷ true ∷ true ∷ false ∷ true ∷ []
row_103 = refl

row_104 : allowed (codes "}") ≡ true ∷ true ∷ true ∷ false ∷ true ∷ []
row_104 = refl

row_105 : allowed (codes "+$\\${%.c/") ≡ false ∷ false ∷ false ∷ false ∷ true ∷ []
row_105 = refl

row_106 : allowed (codes "a$$./@") ≡ true ∷ true ∷ true ∷ false ∷ true ∷ []
row_106 = refl

row_107 : allowed (codes "\\#~/$x)") ≡ true ∷ false ∷ false ∷ false ∷ true ∷ []
row_107 = refl

row_108 : allowed (codes "9") ≡ true ∷ true ∷ true ∷ true ∷ true ∷ []
row_108 = refl

row_109 : allowed (codes "\\$_^;") ≡ true ∷ false ∷ false ∷ false ∷ true ∷ []
row_109 = refl

row_110 : allowed (codes "$!;!") ≡ true ∷ false ∷ false ∷ false ∷ true ∷ []
row_110 = refl

row_111 : allowed (codes " ${c}$") ≡ false ∷ false ∷ false ∷ false ∷ true ∷ []
row_111 = refl

row_112 : allowed (codes "#$#b9~") ≡ false ∷ false ∷ false ∷ false ∷ true ∷ []
row_112 = refl

row_113 : allowed (codes "$ ") ≡ false ∷ false ∷ false ∷ false ∷ true ∷ []
row_113 = refl

row_114 : allowed (codes "/_") ≡ true ∷ true ∷ true ∷ false ∷ true ∷ []
row_114 = refl

row_115 : allowed (codes "$x\\$.") ≡ true ∷ false ∷ false ∷ false ∷ true ∷ []
row_115 = refl

row_116 : allowed ([]) ≡ true ∷ false ∷ false ∷ false ∷ true ∷ []
row_116 = refl

row_117 : allowed (codes "%.c@") ≡ true ∷ true ∷ true ∷ false ∷ true ∷ []
row_117 = refl

row_118 : allowed (codes "^{é") ≡ true ∷ true ∷ true ∷ false ∷ true ∷ []
row_118 = refl

row_119 : allowed (codes "&^") ≡ true ∷ true ∷ true ∷ false ∷ true ∷ []
row_119 = refl

row_120 : allowed (codes "@") ≡ true ∷ true ∷ true ∷ false ∷ true ∷ []
row_120 = refl

row_121 : allowed (codes "\\$é`$(") ≡ false ∷ false ∷ false ∷ false ∷ true ∷ []
row_121 = refl

row_122 : allowed (codes "9") ≡ true ∷ true ∷ true ∷ true ∷ true ∷ []
row_122 = refl

row_123 : allowed (codes "`\n${c}+") ≡ false ∷ false ∷ false ∷ false ∷ false ∷ []
row_123 = refl

row_124 : allowed (codes ")") ≡ true ∷ true ∷ true ∷ false ∷ true ∷ []
row_124 = refl

row_125 : allowed (codes "\\#\n") ≡ false ∷ false ∷ false ∷ false ∷ false ∷ []
row_125 = refl

row_126 : allowed (codes "$xx.o$(a b)b/") ≡ true ∷ true ∷ true ∷ false ∷ true ∷ []
row_126 = refl

row_127 : allowed (codes "%.c$(a b)-Z") ≡ true ∷ true ∷ true ∷ false ∷ true ∷ []
row_127 = refl

row_128 : allowed (codes "9$(a b)$x") ≡ true ∷ true ∷ true ∷ false ∷ true ∷ []
row_128 = refl

row_129 : allowed ([]) ≡ true ∷ false ∷ false ∷ false ∷ true ∷ []
row_129 = refl

row_130 : allowed (codes "@{\t") ≡ false ∷ false ∷ false ∷ false ∷ true ∷ []
row_130 = refl

row_131 : allowed (codes "!") ≡ true ∷ true ∷ true ∷ false ∷ true ∷ []
row_131 = refl

row_132 : allowed ([]) ≡ true ∷ false ∷ false ∷ false ∷ true ∷ []
row_132 = refl

row_133 : allowed ([]) ≡ true ∷ false ∷ false ∷ false ∷ true ∷ []
row_133 = refl

row_134 : allowed (codes "-$(.%.c\\$") ≡ false ∷ false ∷ false ∷ false ∷ true ∷ []
row_134 = refl

row_135 : allowed (codes "^~.;\\") ≡ false ∷ false ∷ false ∷ false ∷ false ∷ []
row_135 = refl

row_136 : allowed (codes ":\0${c}") ≡ false ∷ false ∷ false ∷ false ∷ false ∷ []
row_136 = refl

row_137 : allowed (codes "%.c\\$&") ≡ true ∷ false ∷ false ∷ false ∷ true ∷ []
row_137 = refl

row_138 : allowed ([]) ≡ true ∷ false ∷ false ∷ false ∷ true ∷ []
row_138 = refl

row_139 : allowed (codes "#x.o[${") ≡ false ∷ false ∷ false ∷ false ∷ true ∷ []
row_139 = refl

row_140 : allowed (codes "\\#a$$") ≡ true ∷ false ∷ false ∷ false ∷ true ∷ []
row_140 = refl

row_141 : allowed (codes "bb{$\\") ≡ false ∷ false ∷ false ∷ false ∷ false ∷ []
row_141 = refl

row_142 : allowed (codes "/$x") ≡ true ∷ true ∷ true ∷ false ∷ true ∷ []
row_142 = refl

row_143 : allowed (codes "$$$()$ ") ≡ false ∷ false ∷ false ∷ false ∷ true ∷ []
row_143 = refl

row_144 : allowed (codes ";${c}!\t&") ≡ true ∷ false ∷ false ∷ false ∷ true ∷ []
row_144 = refl

row_145 : allowed ([]) ≡ true ∷ false ∷ false ∷ false ∷ true ∷ []
row_145 = refl

row_146 : allowed (codes "\r/${-") ≡ false ∷ false ∷ false ∷ false ∷ false ∷ []
row_146 = refl

row_147 : allowed ([]) ≡ true ∷ false ∷ false ∷ false ∷ true ∷ []
row_147 = refl

row_148 : allowed (codes "a%.c_${c}$$") ≡ true ∷ true ∷ true ∷ false ∷ true ∷ []
row_148 = refl

row_149 : allowed (codes "%.c_+\n$#") ≡ false ∷ false ∷ false ∷ false ∷ false ∷ []
row_149 = refl

row_150 : allowed (codes "+^\t") ≡ false ∷ false ∷ false ∷ false ∷ true ∷ []
row_150 = refl

row_151 : allowed (codes "ax.o") ≡ true ∷ true ∷ true ∷ true ∷ true ∷ []
row_151 = refl

row_152 : allowed (codes "\t)!") ≡ false ∷ false ∷ false ∷ false ∷ true ∷ []
row_152 = refl

row_153 : allowed (codes "^$#&x.o`") ≡ true ∷ true ∷ true ∷ false ∷ true ∷ []
row_153 = refl

row_154 : allowed (codes "/\\#a") ≡ true ∷ false ∷ false ∷ false ∷ true ∷ []
row_154 = refl

row_155 : allowed (codes "$\\éé+$$") ≡ true ∷ false ∷ false ∷ false ∷ true ∷ []
row_155 = refl

row_156 : allowed (codes "$\\?#") ≡ false ∷ false ∷ false ∷ false ∷ true ∷ []
row_156 = refl

row_157 : allowed (codes ")~${c};\\$") ≡ false ∷ false ∷ false ∷ false ∷ true ∷ []
row_157 = refl

row_158 : allowed (codes "\n") ≡ false ∷ false ∷ false ∷ false ∷ false ∷ []
row_158 = refl

row_159 : allowed (codes "\r$ :\0 ") ≡ false ∷ false ∷ false ∷ false ∷ false ∷ []
row_159 = refl

row_160 : allowed (codes "é~_&") ≡ true ∷ true ∷ false ∷ false ∷ true ∷ []
row_160 = refl

row_161 : allowed (codes "{") ≡ true ∷ true ∷ true ∷ false ∷ true ∷ []
row_161 = refl

row_162 : allowed (codes "{b") ≡ true ∷ true ∷ true ∷ false ∷ true ∷ []
row_162 = refl

row_163 : allowed (codes "$(a b){\0$($x") ≡ false ∷ false ∷ false ∷ false ∷ false ∷ []
row_163 = refl

row_164 : allowed (codes "a\t$@") ≡ true ∷ false ∷ false ∷ false ∷ true ∷ []
row_164 = refl

row_165 : allowed (codes "!)$(a b)=$") ≡ false ∷ false ∷ false ∷ false ∷ true ∷ []
row_165 = refl

row_166 : allowed (codes "+Z$(") ≡ false ∷ false ∷ false ∷ false ∷ true ∷ []
row_166 = refl

row_167 : allowed (codes "$ :_\t_") ≡ true ∷ false ∷ false ∷ false ∷ true ∷ []
row_167 = refl

row_168 : allowed ([]) ≡ true ∷ false ∷ false ∷ false ∷ true ∷ []
row_168 = refl

row_169 : allowed (codes "Z$xb-${c}") ≡ true ∷ true ∷ true ∷ false ∷ true ∷ []
row_169 = refl

row_170 : allowed (codes ")/?/") ≡ true ∷ true ∷ true ∷ false ∷ true ∷ []
row_170 = refl

row_171 : allowed (codes "$(_") ≡ false ∷ false ∷ false ∷ false ∷ true ∷ []
row_171 = refl

row_172 : allowed (codes "${c}.x.o%.c") ≡ true ∷ true ∷ true ∷ false ∷ true ∷ []
row_172 = refl

row_173 : allowed ([]) ≡ true ∷ false ∷ false ∷ false ∷ true ∷ []
row_173 = refl

row_174 : allowed (codes "$x$x/%.c_") ≡ true ∷ true ∷ true ∷ false ∷ true ∷ []
row_174 = refl

row_175 : allowed (codes "@\0\\#\0$x") ≡ false ∷ false ∷ false ∷ false ∷ false ∷ []
row_175 = refl

row_176 : allowed (codes "\\$ ") ≡ false ∷ false ∷ false ∷ false ∷ true ∷ []
row_176 = refl

row_177 : allowed (codes "\\$@") ≡ true ∷ false ∷ false ∷ false ∷ true ∷ []
row_177 = refl

row_178 : allowed (codes "b\\$\0}:") ≡ false ∷ false ∷ false ∷ false ∷ false ∷ []
row_178 = refl

row_179 : allowed (codes "$(") ≡ false ∷ false ∷ false ∷ false ∷ true ∷ []
row_179 = refl

row_180 : allowed (codes "$xZ/$(a b)x.o") ≡ true ∷ true ∷ true ∷ false ∷ true ∷ []
row_180 = refl

row_181 : allowed (codes "$(a b)$\\$=?") ≡ true ∷ false ∷ false ∷ false ∷ true ∷ []
row_181 = refl

row_182 : allowed (codes "@") ≡ true ∷ true ∷ true ∷ false ∷ true ∷ []
row_182 = refl

row_183 : allowed (codes ")\0") ≡ false ∷ false ∷ false ∷ false ∷ false ∷ []
row_183 = refl

row_184 : allowed (codes "/@^)_") ≡ true ∷ true ∷ true ∷ false ∷ true ∷ []
row_184 = refl

row_185 : allowed (codes ".x.o@") ≡ true ∷ true ∷ true ∷ false ∷ true ∷ []
row_185 = refl

row_186 : allowed (codes "a") ≡ true ∷ true ∷ true ∷ true ∷ true ∷ []
row_186 = refl

row_187 : allowed (codes "a@$$9") ≡ true ∷ true ∷ true ∷ false ∷ true ∷ []
row_187 = refl

row_188 : allowed (codes "@?é") ≡ true ∷ true ∷ true ∷ false ∷ true ∷ []
row_188 = refl

row_189 : allowed (codes "; [$(") ≡ false ∷ false ∷ false ∷ false ∷ true ∷ []
row_189 = refl

row_190 : allowed (codes "Zb9-9") ≡ true ∷ true ∷ true ∷ true ∷ true ∷ []
row_190 = refl

row_191 : allowed (codes "${c}@\\") ≡ false ∷ false ∷ false ∷ false ∷ false ∷ []
row_191 = refl

row_192 : allowed (codes "\\#$ \r") ≡ false ∷ false ∷ false ∷ false ∷ false ∷ []
row_192 = refl

row_193 : allowed (codes "$ &$ x.o") ≡ true ∷ false ∷ false ∷ false ∷ true ∷ []
row_193 = refl

row_194 : allowed ([]) ≡ true ∷ false ∷ false ∷ false ∷ true ∷ []
row_194 = refl

row_195 : allowed ([]) ≡ true ∷ false ∷ false ∷ false ∷ true ∷ []
row_195 = refl

row_196 : allowed (codes "\r$ ") ≡ false ∷ false ∷ false ∷ false ∷ false ∷ []
row_196 = refl

row_197 : allowed (codes "\0") ≡ false ∷ false ∷ false ∷ false ∷ false ∷ []
row_197 = refl

row_198 : allowed (codes "Z$$@aa") ≡ true ∷ true ∷ true ∷ false ∷ true ∷ []
row_198 = refl

row_199 : allowed (codes "!9$#\r$") ≡ false ∷ false ∷ false ∷ false ∷ false ∷ []
row_199 = refl

row_200 : allowed (codes "${c}/_") ≡ true ∷ true ∷ true ∷ false ∷ true ∷ []
row_200 = refl

row_201 : allowed ([]) ≡ true ∷ false ∷ false ∷ false ∷ true ∷ []
row_201 = refl

row_202 : allowed (codes "%.cZ$(x.o") ≡ false ∷ false ∷ false ∷ false ∷ true ∷ []
row_202 = refl

row_203 : allowed (codes "b") ≡ true ∷ true ∷ true ∷ true ∷ true ∷ []
row_203 = refl

row_204 : allowed (codes "$(") ≡ false ∷ false ∷ false ∷ false ∷ true ∷ []
row_204 = refl

row_205 : allowed (codes "[") ≡ true ∷ true ∷ true ∷ false ∷ true ∷ []
row_205 = refl

row_206 : allowed (codes "{$(") ≡ false ∷ false ∷ false ∷ false ∷ true ∷ []
row_206 = refl

row_207 : allowed (codes "{\\\\9$ ") ≡ false ∷ false ∷ false ∷ false ∷ true ∷ []
row_207 = refl

row_208 : allowed (codes "$x\t:$\\") ≡ false ∷ false ∷ false ∷ false ∷ false ∷ []
row_208 = refl

row_209 : allowed (codes "?9\t\\##") ≡ false ∷ false ∷ false ∷ false ∷ true ∷ []
row_209 = refl

row_210 : allowed (codes "!:[_@") ≡ true ∷ false ∷ false ∷ false ∷ true ∷ []
row_210 = refl

row_211 : allowed (codes "é_$$x") ≡ true ∷ true ∷ true ∷ false ∷ true ∷ []
row_211 = refl

row_212 : allowed (codes "9") ≡ true ∷ true ∷ true ∷ true ∷ true ∷ []
row_212 = refl

row_213 : allowed (codes "Z9{") ≡ true ∷ true ∷ true ∷ false ∷ true ∷ []
row_213 = refl

row_214 : allowed (codes "x.o%.c.b") ≡ true ∷ true ∷ true ∷ false ∷ true ∷ []
row_214 = refl

row_215 : allowed ([]) ≡ true ∷ false ∷ false ∷ false ∷ true ∷ []
row_215 = refl

row_216 : allowed ([]) ≡ true ∷ false ∷ false ∷ false ∷ true ∷ []
row_216 = refl

row_217 : allowed (codes "\0") ≡ false ∷ false ∷ false ∷ false ∷ false ∷ []
row_217 = refl

row_218 : allowed (codes "b?$(") ≡ false ∷ false ∷ false ∷ false ∷ true ∷ []
row_218 = refl

row_219 : allowed (codes "b_") ≡ true ∷ true ∷ true ∷ true ∷ true ∷ []
row_219 = refl

row_220 : allowed (codes "a$x_") ≡ true ∷ true ∷ true ∷ false ∷ true ∷ []
row_220 = refl

row_221 : allowed (codes "$") ≡ false ∷ false ∷ false ∷ false ∷ true ∷ []
row_221 = refl

row_222 : allowed ([]) ≡ true ∷ false ∷ false ∷ false ∷ true ∷ []
row_222 = refl

row_223 : allowed (codes "-:") ≡ true ∷ false ∷ false ∷ false ∷ true ∷ []
row_223 = refl

row_224 : allowed (codes "\\#/  ") ≡ false ∷ false ∷ false ∷ false ∷ true ∷ []
row_224 = refl

row_225 : allowed (codes "$ |-") ≡ true ∷ false ∷ false ∷ false ∷ true ∷ []
row_225 = refl

row_226 : allowed (codes "%.c%.c$x") ≡ true ∷ true ∷ true ∷ false ∷ true ∷ []
row_226 = refl

row_227 : allowed (codes "~?!b") ≡ true ∷ true ∷ true ∷ false ∷ true ∷ []
row_227 = refl

row_228 : allowed (codes "${c}$$") ≡ true ∷ true ∷ true ∷ false ∷ true ∷ []
row_228 = refl

row_229 : allowed (codes "}-#\t") ≡ false ∷ false ∷ false ∷ false ∷ true ∷ []
row_229 = refl

row_230 : allowed ([]) ≡ true ∷ false ∷ false ∷ false ∷ true ∷ []
row_230 = refl

row_231 : allowed (codes "%.c.-_.") ≡ true ∷ true ∷ true ∷ false ∷ true ∷ []
row_231 = refl

row_232 : allowed (codes "?+") ≡ true ∷ true ∷ true ∷ false ∷ true ∷ []
row_232 = refl

row_233 : allowed ([]) ≡ true ∷ false ∷ false ∷ false ∷ true ∷ []
row_233 = refl

row_234 : allowed (codes ".$$.$(a b)b") ≡ true ∷ true ∷ true ∷ false ∷ true ∷ []
row_234 = refl

row_235 : allowed (codes "|=") ≡ true ∷ false ∷ false ∷ false ∷ true ∷ []
row_235 = refl

row_236 : allowed (codes "\r.$ 9%.c") ≡ false ∷ false ∷ false ∷ false ∷ false ∷ []
row_236 = refl

row_237 : allowed (codes "$(a b)/_") ≡ true ∷ true ∷ true ∷ false ∷ true ∷ []
row_237 = refl

row_238 : allowed (codes "$# \n`\n") ≡ false ∷ false ∷ false ∷ false ∷ false ∷ []
row_238 = refl

row_239 : allowed (codes "$\\ !") ≡ true ∷ false ∷ false ∷ false ∷ true ∷ []
row_239 = refl

row_240 : allowed ([]) ≡ true ∷ false ∷ false ∷ false ∷ true ∷ []
row_240 = refl

row_241 : allowed (codes "9$(a b)Z@b") ≡ true ∷ true ∷ true ∷ false ∷ true ∷ []
row_241 = refl

row_242 : allowed (codes "$x$(a b)a") ≡ true ∷ true ∷ true ∷ false ∷ true ∷ []
row_242 = refl

row_243 : allowed (codes "^$(@-") ≡ false ∷ false ∷ false ∷ false ∷ true ∷ []
row_243 = refl

row_244 : allowed ([]) ≡ true ∷ false ∷ false ∷ false ∷ true ∷ []
row_244 = refl

row_245 : allowed (codes "`._/") ≡ true ∷ true ∷ true ∷ false ∷ true ∷ []
row_245 = refl

row_246 : allowed (codes "+") ≡ true ∷ true ∷ true ∷ false ∷ true ∷ []
row_246 = refl

row_247 : allowed ([]) ≡ true ∷ false ∷ false ∷ false ∷ true ∷ []
row_247 = refl

row_248 : allowed (codes "@${@") ≡ false ∷ false ∷ false ∷ false ∷ true ∷ []
row_248 = refl

row_249 : allowed (codes "&\\:;") ≡ true ∷ false ∷ false ∷ false ∷ true ∷ []
row_249 = refl

row_250 : allowed (codes "$$|é_") ≡ true ∷ false ∷ false ∷ false ∷ true ∷ []
row_250 = refl

row_251 : allowed (codes "#$$") ≡ false ∷ false ∷ false ∷ false ∷ true ∷ []
row_251 = refl

row_252 : allowed (codes "$$-%.c@") ≡ true ∷ true ∷ true ∷ false ∷ true ∷ []
row_252 = refl

row_253 : allowed (codes "\\$+$ ") ≡ false ∷ false ∷ false ∷ false ∷ true ∷ []
row_253 = refl

row_254 : allowed ([]) ≡ true ∷ false ∷ false ∷ false ∷ true ∷ []
row_254 = refl

row_255 : allowed (codes "a$$)") ≡ true ∷ true ∷ true ∷ false ∷ true ∷ []
row_255 = refl

row_256 : allowed (codes "a!x.o)+") ≡ true ∷ true ∷ true ∷ false ∷ true ∷ []
row_256 = refl

row_257 : allowed (codes "}!`$#\\#") ≡ true ∷ false ∷ false ∷ false ∷ true ∷ []
row_257 = refl

row_258 : allowed (codes "!?#") ≡ false ∷ false ∷ false ∷ false ∷ true ∷ []
row_258 = refl

row_259 : allowed (codes ");)%.c") ≡ true ∷ false ∷ false ∷ false ∷ true ∷ []
row_259 = refl

row_260 : allowed (codes "%.c\\#${c}$") ≡ false ∷ false ∷ false ∷ false ∷ true ∷ []
row_260 = refl

row_261 : allowed (codes "[$#Z") ≡ true ∷ true ∷ true ∷ false ∷ true ∷ []
row_261 = refl

row_262 : allowed (codes "${[[") ≡ false ∷ false ∷ false ∷ false ∷ true ∷ []
row_262 = refl

row_263 : allowed ([]) ≡ true ∷ false ∷ false ∷ false ∷ true ∷ []
row_263 = refl

row_264 : allowed ([]) ≡ true ∷ false ∷ false ∷ false ∷ true ∷ []
row_264 = refl

row_265 : allowed (codes "$(\n{") ≡ false ∷ false ∷ false ∷ false ∷ false ∷ []
row_265 = refl

row_266 : allowed (codes " \r=") ≡ false ∷ false ∷ false ∷ false ∷ false ∷ []
row_266 = refl

row_267 : allowed (codes "\t$(a b)#") ≡ false ∷ false ∷ false ∷ false ∷ true ∷ []
row_267 = refl

row_268 : allowed (codes "/") ≡ true ∷ true ∷ true ∷ false ∷ true ∷ []
row_268 = refl

row_269 : allowed (codes "$ ") ≡ false ∷ false ∷ false ∷ false ∷ true ∷ []
row_269 = refl

row_270 : allowed (codes "$+${") ≡ false ∷ false ∷ false ∷ false ∷ true ∷ []
row_270 = refl

row_271 : allowed (codes "$(: &/") ≡ false ∷ false ∷ false ∷ false ∷ true ∷ []
row_271 = refl

row_272 : allowed (codes "\0@:") ≡ false ∷ false ∷ false ∷ false ∷ false ∷ []
row_272 = refl

row_273 : allowed (codes "9") ≡ true ∷ true ∷ true ∷ true ∷ true ∷ []
row_273 = refl

row_274 : allowed (codes "é") ≡ true ∷ true ∷ true ∷ false ∷ true ∷ []
row_274 = refl

row_275 : allowed (codes "Zx.o") ≡ true ∷ true ∷ true ∷ true ∷ true ∷ []
row_275 = refl

row_276 : allowed ([]) ≡ true ∷ false ∷ false ∷ false ∷ true ∷ []
row_276 = refl

row_277 : allowed (codes "$xa.:\\$") ≡ false ∷ false ∷ false ∷ false ∷ true ∷ []
row_277 = refl

row_278 : allowed ([]) ≡ true ∷ false ∷ false ∷ false ∷ true ∷ []
row_278 = refl

row_279 : allowed (codes ":\t9`") ≡ true ∷ false ∷ false ∷ false ∷ true ∷ []
row_279 = refl

row_280 : allowed ([]) ≡ true ∷ false ∷ false ∷ false ∷ true ∷ []
row_280 = refl

row_281 : allowed (codes "#[x.o$^") ≡ false ∷ false ∷ false ∷ false ∷ true ∷ []
row_281 = refl

row_282 : allowed (codes "@9/") ≡ true ∷ true ∷ true ∷ false ∷ true ∷ []
row_282 = refl

row_283 : allowed ([]) ≡ true ∷ false ∷ false ∷ false ∷ true ∷ []
row_283 = refl

row_284 : allowed ([]) ≡ true ∷ false ∷ false ∷ false ∷ true ∷ []
row_284 = refl

row_285 : allowed (codes "^+") ≡ true ∷ true ∷ true ∷ false ∷ true ∷ []
row_285 = refl

row_286 : allowed (codes "x.o$\\|") ≡ true ∷ false ∷ false ∷ false ∷ true ∷ []
row_286 = refl

row_287 : allowed (codes "$(a b)@$x") ≡ true ∷ true ∷ true ∷ false ∷ true ∷ []
row_287 = refl

row_288 : allowed (codes "$#!${") ≡ false ∷ false ∷ false ∷ false ∷ true ∷ []
row_288 = refl

row_289 : allowed (codes "!/\\$ &") ≡ true ∷ false ∷ false ∷ false ∷ true ∷ []
row_289 = refl

row_290 : allowed (codes "${c}.@@$x") ≡ true ∷ true ∷ true ∷ false ∷ true ∷ []
row_290 = refl

row_291 : allowed (codes "{;)-") ≡ true ∷ false ∷ false ∷ false ∷ true ∷ []
row_291 = refl

row_292 : allowed (codes "$(@") ≡ false ∷ false ∷ false ∷ false ∷ true ∷ []
row_292 = refl

row_293 : allowed (codes "%.c") ≡ true ∷ true ∷ true ∷ false ∷ true ∷ []
row_293 = refl

row_294 : allowed (codes "\\#{$\\") ≡ false ∷ false ∷ false ∷ false ∷ false ∷ []
row_294 = refl

row_295 : allowed ([]) ≡ true ∷ false ∷ false ∷ false ∷ true ∷ []
row_295 = refl

row_296 : allowed (codes "+$(a b)#$(") ≡ false ∷ false ∷ false ∷ false ∷ true ∷ []
row_296 = refl

row_297 : allowed (codes ")$(&/&") ≡ false ∷ false ∷ false ∷ false ∷ true ∷ []
row_297 = refl

row_298 : allowed (codes "\\ $x") ≡ true ∷ false ∷ false ∷ false ∷ true ∷ []
row_298 = refl

row_299 : allowed (codes "$ ") ≡ false ∷ false ∷ false ∷ false ∷ true ∷ []
row_299 = refl

row_300 : allowed (codes "$(a b)9+}") ≡ true ∷ true ∷ true ∷ false ∷ true ∷ []
row_300 = refl

row_301 : allowed (codes "`") ≡ true ∷ true ∷ true ∷ false ∷ true ∷ []
row_301 = refl

row_302 : allowed (codes "}") ≡ true ∷ true ∷ true ∷ false ∷ true ∷ []
row_302 = refl

row_303 : allowed (codes " x.o%.c") ≡ false ∷ false ∷ false ∷ false ∷ true ∷ []
row_303 = refl

row_304 : allowed (codes "$@.{!") ≡ true ∷ true ∷ true ∷ false ∷ true ∷ []
row_304 = refl

row_305 : allowed ([]) ≡ true ∷ false ∷ false ∷ false ∷ true ∷ []
row_305 = refl

row_306 : allowed (codes "x.o@$#$$+") ≡ true ∷ true ∷ true ∷ false ∷ true ∷ []
row_306 = refl

row_307 : allowed (codes ":}") ≡ true ∷ false ∷ false ∷ false ∷ true ∷ []
row_307 = refl

row_308 : allowed ([]) ≡ true ∷ false ∷ false ∷ false ∷ true ∷ []
row_308 = refl

row_309 : allowed (codes "@.@$(") ≡ false ∷ false ∷ false ∷ false ∷ true ∷ []
row_309 = refl

row_310 : allowed (codes "$($\\") ≡ false ∷ false ∷ false ∷ false ∷ false ∷ []
row_310 = refl

row_311 : allowed (codes "bx.o ") ≡ false ∷ false ∷ false ∷ false ∷ true ∷ []
row_311 = refl

row_312 : allowed ([]) ≡ true ∷ false ∷ false ∷ false ∷ true ∷ []
row_312 = refl

row_313 : allowed (codes "^") ≡ true ∷ true ∷ true ∷ false ∷ true ∷ []
row_313 = refl

row_314 : allowed (codes "_.") ≡ true ∷ true ∷ true ∷ true ∷ true ∷ []
row_314 = refl

row_315 : allowed ([]) ≡ true ∷ false ∷ false ∷ false ∷ true ∷ []
row_315 = refl

row_316 : allowed (codes "$(") ≡ false ∷ false ∷ false ∷ false ∷ true ∷ []
row_316 = refl

row_317 : allowed (codes "b.") ≡ true ∷ true ∷ true ∷ true ∷ true ∷ []
row_317 = refl

row_318 : allowed (codes ".@$x") ≡ true ∷ true ∷ true ∷ false ∷ true ∷ []
row_318 = refl

row_319 : allowed (codes "-") ≡ true ∷ true ∷ true ∷ true ∷ true ∷ []
row_319 = refl

row_320 : allowed (codes "a+") ≡ true ∷ true ∷ true ∷ false ∷ true ∷ []
row_320 = refl

row_321 : allowed ([]) ≡ true ∷ false ∷ false ∷ false ∷ true ∷ []
row_321 = refl

row_322 : allowed (codes "é%.c$\\$(\0") ≡ false ∷ false ∷ false ∷ false ∷ false ∷ []
row_322 = refl

row_323 : allowed (codes "$(a b)$x%.cx.o") ≡ true ∷ true ∷ true ∷ false ∷ true ∷ []
row_323 = refl

row_324 : allowed (codes "\0)@{") ≡ false ∷ false ∷ false ∷ false ∷ false ∷ []
row_324 = refl

row_325 : allowed (codes "9") ≡ true ∷ true ∷ true ∷ true ∷ true ∷ []
row_325 = refl

row_326 : allowed ([]) ≡ true ∷ false ∷ false ∷ false ∷ true ∷ []
row_326 = refl

row_327 : allowed (codes "@") ≡ true ∷ true ∷ true ∷ false ∷ true ∷ []
row_327 = refl

row_328 : allowed (codes "b$!$(") ≡ false ∷ false ∷ false ∷ false ∷ true ∷ []
row_328 = refl

row_329 : allowed (codes "|%.c") ≡ true ∷ false ∷ false ∷ false ∷ true ∷ []
row_329 = refl

row_330 : allowed ([]) ≡ true ∷ false ∷ false ∷ false ∷ true ∷ []
row_330 = refl

row_331 : allowed ([]) ≡ true ∷ false ∷ false ∷ false ∷ true ∷ []
row_331 = refl

row_332 : allowed (codes "\n!\\#é") ≡ false ∷ false ∷ false ∷ false ∷ false ∷ []
row_332 = refl

row_333 : allowed (codes "b\\$);") ≡ true ∷ false ∷ false ∷ false ∷ true ∷ []
row_333 = refl

row_334 : allowed (codes "_") ≡ true ∷ true ∷ true ∷ true ∷ true ∷ []
row_334 = refl

row_335 : allowed (codes "^") ≡ true ∷ true ∷ true ∷ false ∷ true ∷ []
row_335 = refl

row_336 : allowed (codes "|") ≡ true ∷ false ∷ false ∷ false ∷ true ∷ []
row_336 = refl

row_337 : allowed (codes "\n${") ≡ false ∷ false ∷ false ∷ false ∷ false ∷ []
row_337 = refl

row_338 : allowed (codes "/x.o-") ≡ true ∷ true ∷ true ∷ false ∷ true ∷ []
row_338 = refl

row_339 : allowed (codes "Z__${c}") ≡ true ∷ true ∷ true ∷ false ∷ true ∷ []
row_339 = refl

row_340 : allowed (codes "$\\a!a`") ≡ true ∷ false ∷ false ∷ false ∷ true ∷ []
row_340 = refl

row_341 : allowed (codes "%.c@bx.oa") ≡ true ∷ true ∷ true ∷ false ∷ true ∷ []
row_341 = refl

row_342 : allowed (codes "^:$(\n") ≡ false ∷ false ∷ false ∷ false ∷ false ∷ []
row_342 = refl

row_343 : allowed (codes "=9-|") ≡ true ∷ false ∷ false ∷ false ∷ true ∷ []
row_343 = refl

row_344 : allowed (codes "@~aZx.o") ≡ true ∷ true ∷ true ∷ false ∷ true ∷ []
row_344 = refl

row_345 : allowed (codes "+\t\\#$(") ≡ false ∷ false ∷ false ∷ false ∷ true ∷ []
row_345 = refl

row_346 : allowed (codes "`\t|~") ≡ true ∷ false ∷ false ∷ false ∷ true ∷ []
row_346 = refl

row_347 : allowed (codes "\\-\\#\t") ≡ false ∷ false ∷ false ∷ false ∷ true ∷ []
row_347 = refl

row_348 : allowed ([]) ≡ true ∷ false ∷ false ∷ false ∷ true ∷ []
row_348 = refl

row_349 : allowed (codes "}:é\t$") ≡ false ∷ false ∷ false ∷ false ∷ true ∷ []
row_349 = refl

row_350 : allowed ([]) ≡ true ∷ false ∷ false ∷ false ∷ true ∷ []
row_350 = refl

row_351 : allowed (codes "\r\t${") ≡ false ∷ false ∷ false ∷ false ∷ false ∷ []
row_351 = refl

row_352 : allowed (codes ";~") ≡ true ∷ false ∷ false ∷ false ∷ true ∷ []
row_352 = refl

row_353 : allowed (codes "?$(a b)9 ") ≡ false ∷ false ∷ false ∷ false ∷ true ∷ []
row_353 = refl

row_354 : allowed (codes "$x!`{") ≡ true ∷ true ∷ true ∷ false ∷ true ∷ []
row_354 = refl

row_355 : allowed (codes "@x.o") ≡ true ∷ true ∷ true ∷ false ∷ true ∷ []
row_355 = refl

row_356 : allowed ([]) ≡ true ∷ false ∷ false ∷ false ∷ true ∷ []
row_356 = refl

row_357 : allowed (codes "\r") ≡ false ∷ false ∷ false ∷ false ∷ false ∷ []
row_357 = refl

row_358 : allowed (codes "\0") ≡ false ∷ false ∷ false ∷ false ∷ false ∷ []
row_358 = refl

row_359 : allowed ([]) ≡ true ∷ false ∷ false ∷ false ∷ true ∷ []
row_359 = refl

row_360 : allowed (codes "[\\") ≡ false ∷ false ∷ false ∷ false ∷ false ∷ []
row_360 = refl

row_361 : allowed (codes "|\n&") ≡ false ∷ false ∷ false ∷ false ∷ false ∷ []
row_361 = refl

row_362 : allowed (codes "é$$:;\0") ≡ false ∷ false ∷ false ∷ false ∷ false ∷ []
row_362 = refl

row_363 : allowed (codes "&$(%.c$(a b)") ≡ false ∷ false ∷ false ∷ false ∷ true ∷ []
row_363 = refl

row_364 : allowed (codes "b$$a") ≡ true ∷ true ∷ true ∷ false ∷ true ∷ []
row_364 = refl

row_365 : allowed (codes "=") ≡ true ∷ false ∷ false ∷ false ∷ true ∷ []
row_365 = refl

row_366 : allowed (codes "+${$(a b)$(a b)?") ≡ false ∷ false ∷ false ∷ false ∷ true ∷ []
row_366 = refl

row_367 : allowed (codes "b=") ≡ true ∷ false ∷ false ∷ false ∷ true ∷ []
row_367 = refl

row_368 : allowed (codes "@@!~\0") ≡ false ∷ false ∷ false ∷ false ∷ false ∷ []
row_368 = refl

row_369 : allowed (codes "\\:${c}[") ≡ true ∷ false ∷ false ∷ false ∷ true ∷ []
row_369 = refl

row_370 : allowed (codes "9b$$%.c@") ≡ true ∷ true ∷ true ∷ false ∷ true ∷ []
row_370 = refl

row_371 : allowed (codes "$x") ≡ true ∷ true ∷ true ∷ false ∷ true ∷ []
row_371 = refl

row_372 : allowed ([]) ≡ true ∷ false ∷ false ∷ false ∷ true ∷ []
row_372 = refl

row_373 : allowed (codes "\\Z?") ≡ true ∷ false ∷ false ∷ false ∷ true ∷ []
row_373 = refl

row_374 : allowed (codes "+~\\$`!") ≡ true ∷ false ∷ false ∷ false ∷ true ∷ []
row_374 = refl

row_375 : allowed (codes "$$x.ob") ≡ true ∷ true ∷ true ∷ false ∷ true ∷ []
row_375 = refl

row_376 : allowed ([]) ≡ true ∷ false ∷ false ∷ false ∷ true ∷ []
row_376 = refl

row_377 : allowed (codes "-`|Z") ≡ true ∷ false ∷ false ∷ false ∷ true ∷ []
row_377 = refl

row_378 : allowed (codes "a") ≡ true ∷ true ∷ true ∷ true ∷ true ∷ []
row_378 = refl

row_379 : allowed (codes "x.o_") ≡ true ∷ true ∷ true ∷ true ∷ true ∷ []
row_379 = refl

row_380 : allowed (codes "$\\") ≡ false ∷ false ∷ false ∷ false ∷ false ∷ []
row_380 = refl

row_381 : allowed (codes "$x/.$$") ≡ true ∷ true ∷ true ∷ false ∷ true ∷ []
row_381 = refl

row_382 : allowed (codes "+#\\#") ≡ false ∷ false ∷ false ∷ false ∷ true ∷ []
row_382 = refl

row_383 : allowed (codes "$x-$$") ≡ true ∷ true ∷ true ∷ false ∷ true ∷ []
row_383 = refl

row_384 : allowed (codes "\n$(a b)") ≡ false ∷ false ∷ false ∷ false ∷ false ∷ []
row_384 = refl

row_385 : allowed (codes "$xé") ≡ true ∷ true ∷ true ∷ false ∷ true ∷ []
row_385 = refl

row_386 : allowed (codes "\n $(a b)$$") ≡ false ∷ false ∷ false ∷ false ∷ false ∷ []
row_386 = refl

row_387 : allowed (codes "$($#=") ≡ false ∷ false ∷ false ∷ false ∷ true ∷ []
row_387 = refl

row_388 : allowed (codes "_") ≡ true ∷ true ∷ true ∷ true ∷ true ∷ []
row_388 = refl

row_389 : allowed ([]) ≡ true ∷ false ∷ false ∷ false ∷ true ∷ []
row_389 = refl

row_390 : allowed (codes "\\$$$!:") ≡ true ∷ false ∷ false ∷ false ∷ true ∷ []
row_390 = refl

row_391 : allowed (codes "$#") ≡ true ∷ true ∷ true ∷ false ∷ true ∷ []
row_391 = refl

row_392 : allowed (codes "-$x9") ≡ true ∷ true ∷ true ∷ false ∷ true ∷ []
row_392 = refl

row_393 : allowed ([]) ≡ true ∷ false ∷ false ∷ false ∷ true ∷ []
row_393 = refl

row_394 : allowed (codes "aa$x--") ≡ true ∷ true ∷ true ∷ false ∷ true ∷ []
row_394 = refl

row_395 : allowed (codes "$ ") ≡ false ∷ false ∷ false ∷ false ∷ true ∷ []
row_395 = refl

row_396 : allowed (codes "!!_\\\r") ≡ false ∷ false ∷ false ∷ false ∷ false ∷ []
row_396 = refl

row_397 : allowed (codes "${c}") ≡ true ∷ true ∷ true ∷ false ∷ true ∷ []
row_397 = refl

row_398 : allowed (codes "\t$x@") ≡ false ∷ false ∷ false ∷ false ∷ true ∷ []
row_398 = refl

row_399 : allowed (codes "\t") ≡ false ∷ false ∷ false ∷ false ∷ true ∷ []
row_399 = refl

row_400 : allowed (codes ".+") ≡ true ∷ true ∷ true ∷ false ∷ true ∷ []
row_400 = refl

row_401 : allowed (codes "@") ≡ true ∷ true ∷ true ∷ false ∷ true ∷ []
row_401 = refl

row_402 : allowed (codes "\\$$ ") ≡ false ∷ false ∷ false ∷ false ∷ true ∷ []
row_402 = refl

row_403 : allowed (codes "$$x.o") ≡ true ∷ true ∷ true ∷ false ∷ true ∷ []
row_403 = refl

row_404 : allowed ([]) ≡ true ∷ false ∷ false ∷ false ∷ true ∷ []
row_404 = refl

row_405 : allowed (codes "Z$$") ≡ true ∷ true ∷ true ∷ false ∷ true ∷ []
row_405 = refl

row_406 : allowed (codes "/bb/-") ≡ true ∷ true ∷ true ∷ false ∷ true ∷ []
row_406 = refl

row_407 : allowed (codes "/") ≡ true ∷ true ∷ true ∷ false ∷ true ∷ []
row_407 = refl

row_408 : allowed (codes "x.o@/") ≡ true ∷ true ∷ true ∷ false ∷ true ∷ []
row_408 = refl

row_409 : allowed (codes "[?%.c") ≡ true ∷ true ∷ true ∷ false ∷ true ∷ []
row_409 = refl

row_410 : allowed (codes "$éa@") ≡ true ∷ true ∷ true ∷ false ∷ true ∷ []
row_410 = refl

row_411 : allowed (codes "$$") ≡ true ∷ true ∷ true ∷ false ∷ true ∷ []
row_411 = refl

row_412 : allowed (codes "|!\\$@$(") ≡ false ∷ false ∷ false ∷ false ∷ true ∷ []
row_412 = refl

row_413 : allowed (codes "${c}") ≡ true ∷ true ∷ true ∷ false ∷ true ∷ []
row_413 = refl

row_414 : allowed (codes "+@#$(") ≡ false ∷ false ∷ false ∷ false ∷ true ∷ []
row_414 = refl

row_415 : allowed (codes "\0$(&") ≡ false ∷ false ∷ false ∷ false ∷ false ∷ []
row_415 = refl

row_416 : allowed (codes "Z") ≡ true ∷ true ∷ true ∷ true ∷ true ∷ []
row_416 = refl

row_417 : allowed (codes "Z&/") ≡ true ∷ true ∷ true ∷ false ∷ true ∷ []
row_417 = refl

row_418 : allowed (codes "! \\-_") ≡ true ∷ false ∷ false ∷ false ∷ true ∷ []
row_418 = refl

row_419 : allowed ([]) ≡ true ∷ false ∷ false ∷ false ∷ true ∷ []
row_419 = refl

row_420 : allowed (codes "$$$x$\\") ≡ false ∷ false ∷ false ∷ false ∷ false ∷ []
row_420 = refl

row_421 : allowed (codes "\r?\n$$") ≡ false ∷ false ∷ false ∷ false ∷ false ∷ []
row_421 = refl

row_422 : allowed (codes "$ _ 9=") ≡ true ∷ false ∷ false ∷ false ∷ true ∷ []
row_422 = refl

row_423 : allowed (codes "Z@Z/") ≡ true ∷ true ∷ true ∷ false ∷ true ∷ []
row_423 = refl

row_424 : allowed (codes "|Z") ≡ true ∷ false ∷ false ∷ false ∷ true ∷ []
row_424 = refl

row_425 : allowed ([]) ≡ true ∷ false ∷ false ∷ false ∷ true ∷ []
row_425 = refl

row_426 : allowed (codes "\0.\0+") ≡ false ∷ false ∷ false ∷ false ∷ false ∷ []
row_426 = refl

row_427 : allowed (codes ")\0$(\t|") ≡ false ∷ false ∷ false ∷ false ∷ false ∷ []
row_427 = refl

row_428 : allowed ([]) ≡ true ∷ false ∷ false ∷ false ∷ true ∷ []
row_428 = refl

row_429 : allowed (codes "b:)") ≡ true ∷ false ∷ false ∷ false ∷ true ∷ []
row_429 = refl

row_430 : allowed (codes "$(a b)$\\") ≡ false ∷ false ∷ false ∷ false ∷ false ∷ []
row_430 = refl

row_431 : allowed (codes "_$\\") ≡ false ∷ false ∷ false ∷ false ∷ false ∷ []
row_431 = refl

row_432 : allowed (codes "#\0") ≡ false ∷ false ∷ false ∷ false ∷ false ∷ []
row_432 = refl

row_433 : allowed ([]) ≡ true ∷ false ∷ false ∷ false ∷ true ∷ []
row_433 = refl

row_434 : allowed ([]) ≡ true ∷ false ∷ false ∷ false ∷ true ∷ []
row_434 = refl

row_435 : allowed (codes "ab@.") ≡ true ∷ true ∷ true ∷ false ∷ true ∷ []
row_435 = refl

row_436 : allowed (codes "\\#Z") ≡ true ∷ false ∷ false ∷ false ∷ true ∷ []
row_436 = refl

row_437 : allowed (codes "_&{.") ≡ true ∷ true ∷ true ∷ false ∷ true ∷ []
row_437 = refl

row_438 : allowed (codes " +!") ≡ false ∷ false ∷ false ∷ false ∷ true ∷ []
row_438 = refl

row_439 : allowed (codes "@") ≡ true ∷ true ∷ true ∷ false ∷ true ∷ []
row_439 = refl

row_440 : allowed (codes "$(a b)") ≡ true ∷ true ∷ true ∷ false ∷ true ∷ []
row_440 = refl

row_441 : allowed (codes "$ ") ≡ false ∷ false ∷ false ∷ false ∷ true ∷ []
row_441 = refl

row_442 : allowed (codes "/%.c") ≡ true ∷ true ∷ true ∷ false ∷ true ∷ []
row_442 = refl

row_443 : allowed (codes " $") ≡ false ∷ false ∷ false ∷ false ∷ true ∷ []
row_443 = refl

row_444 : allowed ([]) ≡ true ∷ false ∷ false ∷ false ∷ true ∷ []
row_444 = refl

row_445 : allowed (codes "\\$\0\\#${") ≡ false ∷ false ∷ false ∷ false ∷ false ∷ []
row_445 = refl

row_446 : allowed (codes "._@${c}") ≡ true ∷ true ∷ true ∷ false ∷ true ∷ []
row_446 = refl

row_447 : allowed (codes "#.") ≡ false ∷ false ∷ false ∷ false ∷ true ∷ []
row_447 = refl

row_448 : allowed (codes "$x${c}_9") ≡ true ∷ true ∷ true ∷ false ∷ true ∷ []
row_448 = refl

row_449 : allowed (codes "é|") ≡ true ∷ false ∷ false ∷ false ∷ true ∷ []
row_449 = refl

row_450 : allowed (codes "_$$/$$") ≡ true ∷ true ∷ true ∷ false ∷ true ∷ []
row_450 = refl

row_451 : allowed (codes "_\\#} ") ≡ false ∷ false ∷ false ∷ false ∷ true ∷ []
row_451 = refl

row_452 : allowed (codes "%.cZ;\n") ≡ false ∷ false ∷ false ∷ false ∷ false ∷ []
row_452 = refl

row_453 : allowed ([]) ≡ true ∷ false ∷ false ∷ false ∷ true ∷ []
row_453 = refl

row_454 : allowed (codes "-$x") ≡ true ∷ true ∷ true ∷ false ∷ true ∷ []
row_454 = refl

row_455 : allowed (codes "a$x$(a b)$x") ≡ true ∷ true ∷ true ∷ false ∷ true ∷ []
row_455 = refl

row_456 : allowed (codes ":$x$$@") ≡ true ∷ false ∷ false ∷ false ∷ true ∷ []
row_456 = refl

row_457 : allowed (codes "$(a b)") ≡ true ∷ true ∷ true ∷ false ∷ true ∷ []
row_457 = refl

row_458 : allowed (codes "$(=$$9\n") ≡ false ∷ false ∷ false ∷ false ∷ false ∷ []
row_458 = refl

row_459 : allowed (codes "\\$é") ≡ true ∷ false ∷ false ∷ false ∷ true ∷ []
row_459 = refl

row_460 : allowed (codes "aa&Z${c}") ≡ true ∷ true ∷ true ∷ false ∷ true ∷ []
row_460 = refl

row_461 : allowed (codes "Za@.") ≡ true ∷ true ∷ true ∷ false ∷ true ∷ []
row_461 = refl

row_462 : allowed (codes "Z") ≡ true ∷ true ∷ true ∷ true ∷ true ∷ []
row_462 = refl

row_463 : allowed (codes "/") ≡ true ∷ true ∷ true ∷ false ∷ true ∷ []
row_463 = refl

row_464 : allowed (codes "&") ≡ true ∷ true ∷ false ∷ false ∷ true ∷ []
row_464 = refl

row_465 : allowed (codes "\0`") ≡ false ∷ false ∷ false ∷ false ∷ false ∷ []
row_465 = refl

row_466 : allowed (codes "Z9${c}$(a b)") ≡ true ∷ true ∷ true ∷ false ∷ true ∷ []
row_466 = refl

row_467 : allowed (codes ":\\$|\n") ≡ false ∷ false ∷ false ∷ false ∷ false ∷ []
row_467 = refl

row_468 : allowed ([]) ≡ true ∷ false ∷ false ∷ false ∷ true ∷ []
row_468 = refl

row_469 : allowed (codes "{$#[\\$:") ≡ true ∷ false ∷ false ∷ false ∷ true ∷ []
row_469 = refl

row_470 : allowed (codes "  _`") ≡ false ∷ false ∷ false ∷ false ∷ true ∷ []
row_470 = refl

row_471 : allowed (codes "+&$\\$#[") ≡ true ∷ false ∷ false ∷ false ∷ true ∷ []
row_471 = refl

row_472 : allowed (codes "|$\\^$#") ≡ true ∷ false ∷ false ∷ false ∷ true ∷ []
row_472 = refl

row_473 : allowed (codes "$\\|${c}") ≡ true ∷ false ∷ false ∷ false ∷ true ∷ []
row_473 = refl

row_474 : allowed (codes "?)$#\0$\\") ≡ false ∷ false ∷ false ∷ false ∷ false ∷ []
row_474 = refl

row_475 : allowed (codes ")a") ≡ true ∷ true ∷ true ∷ false ∷ true ∷ []
row_475 = refl

row_476 : allowed ([]) ≡ true ∷ false ∷ false ∷ false ∷ true ∷ []
row_476 = refl

row_477 : allowed (codes "\t@+") ≡ false ∷ false ∷ false ∷ false ∷ true ∷ []
row_477 = refl

row_478 : allowed (codes "| ~{$(a b)") ≡ true ∷ false ∷ false ∷ false ∷ true ∷ []
row_478 = refl

row_479 : allowed (codes "9`x.o") ≡ true ∷ true ∷ true ∷ false ∷ true ∷ []
row_479 = refl

row_480 : allowed ([]) ≡ true ∷ false ∷ false ∷ false ∷ true ∷ []
row_480 = refl

row_481 : allowed (codes "9)\ra") ≡ false ∷ false ∷ false ∷ false ∷ false ∷ []
row_481 = refl

row_482 : allowed (codes "$ 9") ≡ true ∷ false ∷ false ∷ false ∷ true ∷ []
row_482 = refl

row_483 : allowed ([]) ≡ true ∷ false ∷ false ∷ false ∷ true ∷ []
row_483 = refl

row_484 : allowed (codes "`_%.c~${") ≡ false ∷ false ∷ false ∷ false ∷ true ∷ []
row_484 = refl

row_485 : allowed (codes " @b`") ≡ false ∷ false ∷ false ∷ false ∷ true ∷ []
row_485 = refl

row_486 : allowed (codes "+") ≡ true ∷ true ∷ true ∷ false ∷ true ∷ []
row_486 = refl

row_487 : allowed (codes "\n)${\r#") ≡ false ∷ false ∷ false ∷ false ∷ false ∷ []
row_487 = refl

row_488 : allowed (codes "_$$#") ≡ false ∷ false ∷ false ∷ false ∷ true ∷ []
row_488 = refl

row_489 : allowed (codes "Z\\$\\{") ≡ true ∷ false ∷ false ∷ false ∷ true ∷ []
row_489 = refl

row_490 : allowed (codes "\0\r/\\$$(a b)") ≡ false ∷ false ∷ false ∷ false ∷ false ∷ []
row_490 = refl

row_491 : allowed (codes "é\n") ≡ false ∷ false ∷ false ∷ false ∷ false ∷ []
row_491 = refl

row_492 : allowed (codes "${c}_x.ox.oZ") ≡ true ∷ true ∷ true ∷ false ∷ true ∷ []
row_492 = refl

row_493 : allowed ([]) ≡ true ∷ false ∷ false ∷ false ∷ true ∷ []
row_493 = refl

row_494 : allowed (codes "\\# +") ≡ true ∷ false ∷ false ∷ false ∷ true ∷ []
row_494 = refl

row_495 : allowed (codes "x.o$ `${") ≡ false ∷ false ∷ false ∷ false ∷ true ∷ []
row_495 = refl

row_496 : allowed (codes "$(:a).") ≡ true ∷ true ∷ true ∷ false ∷ true ∷ []
row_496 = refl

row_497 : allowed ([]) ≡ true ∷ false ∷ false ∷ false ∷ true ∷ []
row_497 = refl

row_498 : allowed (codes "`$:\n") ≡ false ∷ false ∷ false ∷ false ∷ false ∷ []
row_498 = refl

row_499 : allowed ([]) ≡ true ∷ false ∷ false ∷ false ∷ true ∷ []
row_499 = refl
