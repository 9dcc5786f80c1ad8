-- Sessions with the answers of independent programs: what each call replies (0 if it is done), and what is seen at the end.
use Rattle.std.proofs.Common.{◌≡◌, refl, [], ◌∷◌}
use Rattle.std.specs.Prelude.{Some, None}
use Rattle.mk_history.specs.Machine.{Apply, Undo, Redo, Begin, End, Cancel}
use Rattle.mk_history.proofs.AppendingSession.{replies, shown_after}

replies_0 : replies 2 (End ∷ Begin ∷ []) ([]) ≡ (19 ∷ 0 ∷ [])
replies_0 = refl

shown_0 : shown_after 2 (End ∷ Begin ∷ []) ([]) ≡ record { depth = 2; text = ([]); back = ([]); forward = ([]); begun = (Some ([])); pending = 0 }
shown_0 = refl

replies_1 : replies 3 ([]) ([]) ≡ ([])
replies_1 = refl

shown_1 : shown_after 3 ([]) ([]) ≡ record { depth = 3; text = ([]); back = ([]); forward = ([]); begun = None; pending = 0 }
shown_1 = refl

replies_2 : replies 9 (Redo ∷ Apply 5 ∷ Undo ∷ Undo ∷ Apply 1 ∷ []) ([]) ≡ (17 ∷ 0 ∷ 0 ∷ 16 ∷ 0 ∷ [])
replies_2 = refl

shown_2 : shown_after 9 (Redo ∷ Apply 5 ∷ Undo ∷ Undo ∷ Apply 1 ∷ []) ([]) ≡ record { depth = 9; text = (1 ∷ []); back = (([]) ∷ []); forward = ([]); begun = None; pending = 0 }
shown_2 = refl

replies_3 : replies 2 (Redo ∷ Apply 0 ∷ Redo ∷ End ∷ Begin ∷ End ∷ Apply 5 ∷ Cancel ∷ Begin ∷ End ∷ Apply 3 ∷ Apply 2 ∷ Apply 6 ∷ []) ([]) ≡ (17 ∷ 0 ∷ 17 ∷ 19 ∷ 0 ∷ 0 ∷ 0 ∷ 19 ∷ 0 ∷ 0 ∷ 0 ∷ 14 ∷ 0 ∷ [])
replies_3 = refl

shown_3 : shown_after 2 (Redo ∷ Apply 0 ∷ Redo ∷ End ∷ Begin ∷ End ∷ Apply 5 ∷ Cancel ∷ Begin ∷ End ∷ Apply 3 ∷ Apply 2 ∷ Apply 6 ∷ []) ([]) ≡ record { depth = 2; text = (0 ∷ 5 ∷ 3 ∷ 6 ∷ []); back = ((0 ∷ 5 ∷ 3 ∷ []) ∷ (0 ∷ 5 ∷ []) ∷ []); forward = ([]); begun = None; pending = 0 }
shown_3 = refl

replies_4 : replies 2 (Undo ∷ Apply 2 ∷ Redo ∷ Begin ∷ End ∷ []) (7 ∷ []) ≡ (16 ∷ 0 ∷ 17 ∷ 0 ∷ 0 ∷ [])
replies_4 = refl

shown_4 : shown_after 2 (Undo ∷ Apply 2 ∷ Redo ∷ Begin ∷ End ∷ []) (7 ∷ []) ≡ record { depth = 2; text = (7 ∷ 2 ∷ []); back = ((7 ∷ []) ∷ []); forward = ([]); begun = None; pending = 0 }
shown_4 = refl

replies_5 : replies 2 (End ∷ End ∷ End ∷ Apply 4 ∷ Undo ∷ Undo ∷ Apply 6 ∷ Redo ∷ Cancel ∷ Apply 3 ∷ Undo ∷ []) ([]) ≡ (19 ∷ 19 ∷ 19 ∷ 0 ∷ 0 ∷ 16 ∷ 0 ∷ 17 ∷ 19 ∷ 0 ∷ 0 ∷ [])
replies_5 = refl

shown_5 : shown_after 2 (End ∷ End ∷ End ∷ Apply 4 ∷ Undo ∷ Undo ∷ Apply 6 ∷ Redo ∷ Cancel ∷ Apply 3 ∷ Undo ∷ []) ([]) ≡ record { depth = 2; text = (6 ∷ []); back = (([]) ∷ []); forward = ((6 ∷ 3 ∷ []) ∷ []); begun = None; pending = 0 }
shown_5 = refl

replies_6 : replies 1 (Apply 5 ∷ Begin ∷ Undo ∷ Apply 4 ∷ Undo ∷ Undo ∷ Apply 5 ∷ Apply 0 ∷ []) (7 ∷ []) ≡ (0 ∷ 0 ∷ 18 ∷ 0 ∷ 18 ∷ 18 ∷ 0 ∷ 14 ∷ [])
replies_6 = refl

shown_6 : shown_after 1 (Apply 5 ∷ Begin ∷ Undo ∷ Apply 4 ∷ Undo ∷ Undo ∷ Apply 5 ∷ Apply 0 ∷ []) (7 ∷ []) ≡ record { depth = 1; text = (7 ∷ 5 ∷ 4 ∷ 5 ∷ []); back = ((7 ∷ []) ∷ []); forward = ([]); begun = (Some (7 ∷ 5 ∷ [])); pending = 2 }
shown_6 = refl

replies_7 : replies 3 (Undo ∷ Apply 0 ∷ Redo ∷ Apply 5 ∷ Redo ∷ Redo ∷ Apply 6 ∷ []) ([]) ≡ (16 ∷ 0 ∷ 17 ∷ 0 ∷ 17 ∷ 17 ∷ 0 ∷ [])
replies_7 = refl

shown_7 : shown_after 3 (Undo ∷ Apply 0 ∷ Redo ∷ Apply 5 ∷ Redo ∷ Redo ∷ Apply 6 ∷ []) ([]) ≡ record { depth = 3; text = (0 ∷ 5 ∷ 6 ∷ []); back = ((0 ∷ 5 ∷ []) ∷ (0 ∷ []) ∷ ([]) ∷ []); forward = ([]); begun = None; pending = 0 }
shown_7 = refl

replies_8 : replies 3 (Undo ∷ Begin ∷ Begin ∷ Redo ∷ Undo ∷ Apply 4 ∷ Undo ∷ []) ([]) ≡ (16 ∷ 0 ∷ 18 ∷ 18 ∷ 18 ∷ 0 ∷ 18 ∷ [])
replies_8 = refl

shown_8 : shown_after 3 (Undo ∷ Begin ∷ Begin ∷ Redo ∷ Undo ∷ Apply 4 ∷ Undo ∷ []) ([]) ≡ record { depth = 3; text = (4 ∷ []); back = ([]); forward = ([]); begun = (Some ([])); pending = 1 }
shown_8 = refl

replies_9 : replies 1 (Begin ∷ Apply 0 ∷ Apply 3 ∷ Apply 1 ∷ Apply 6 ∷ Undo ∷ Undo ∷ Begin ∷ Apply 6 ∷ []) ([]) ≡ (0 ∷ 0 ∷ 0 ∷ 14 ∷ 0 ∷ 18 ∷ 18 ∷ 18 ∷ 0 ∷ [])
replies_9 = refl

shown_9 : shown_after 1 (Begin ∷ Apply 0 ∷ Apply 3 ∷ Apply 1 ∷ Apply 6 ∷ Undo ∷ Undo ∷ Begin ∷ Apply 6 ∷ []) ([]) ≡ record { depth = 1; text = (0 ∷ 3 ∷ 6 ∷ 6 ∷ []); back = ([]); forward = ([]); begun = (Some ([])); pending = 4 }
shown_9 = refl

replies_10 : replies 1 (End ∷ Apply 5 ∷ Redo ∷ Apply 2 ∷ Apply 4 ∷ Undo ∷ Redo ∷ Undo ∷ Undo ∷ Apply 4 ∷ Apply 1 ∷ Apply 6 ∷ Cancel ∷ Redo ∷ []) ([]) ≡ (19 ∷ 0 ∷ 17 ∷ 0 ∷ 0 ∷ 0 ∷ 0 ∷ 0 ∷ 16 ∷ 0 ∷ 14 ∷ 0 ∷ 19 ∷ 17 ∷ [])
replies_10 = refl

shown_10 : shown_after 1 (End ∷ Apply 5 ∷ Redo ∷ Apply 2 ∷ Apply 4 ∷ Undo ∷ Redo ∷ Undo ∷ Undo ∷ Apply 4 ∷ Apply 1 ∷ Apply 6 ∷ Cancel ∷ Redo ∷ []) ([]) ≡ record { depth = 1; text = (5 ∷ 2 ∷ 4 ∷ 6 ∷ []); back = ((5 ∷ 2 ∷ 4 ∷ []) ∷ []); forward = ([]); begun = None; pending = 0 }
shown_10 = refl

replies_11 : replies 3 (Undo ∷ Apply 5 ∷ Undo ∷ Redo ∷ Apply 4 ∷ Undo ∷ Cancel ∷ Apply 6 ∷ Apply 5 ∷ Begin ∷ Apply 4 ∷ Apply 0 ∷ Redo ∷ []) (7 ∷ []) ≡ (16 ∷ 0 ∷ 0 ∷ 0 ∷ 0 ∷ 0 ∷ 19 ∷ 0 ∷ 0 ∷ 0 ∷ 0 ∷ 14 ∷ 18 ∷ [])
replies_11 = refl

shown_11 : shown_after 3 (Undo ∷ Apply 5 ∷ Undo ∷ Redo ∷ Apply 4 ∷ Undo ∷ Cancel ∷ Apply 6 ∷ Apply 5 ∷ Begin ∷ Apply 4 ∷ Apply 0 ∷ Redo ∷ []) (7 ∷ []) ≡ record { depth = 3; text = (7 ∷ 5 ∷ 6 ∷ 5 ∷ 4 ∷ []); back = ((7 ∷ 5 ∷ 6 ∷ []) ∷ (7 ∷ 5 ∷ []) ∷ (7 ∷ []) ∷ []); forward = ([]); begun = (Some (7 ∷ 5 ∷ 6 ∷ 5 ∷ [])); pending = 1 }
shown_11 = refl

replies_12 : replies 3 (Apply 6 ∷ End ∷ Redo ∷ Begin ∷ []) (7 ∷ []) ≡ (0 ∷ 19 ∷ 17 ∷ 0 ∷ [])
replies_12 = refl

shown_12 : shown_after 3 (Apply 6 ∷ End ∷ Redo ∷ Begin ∷ []) (7 ∷ []) ≡ record { depth = 3; text = (7 ∷ 6 ∷ []); back = ((7 ∷ []) ∷ []); forward = ([]); begun = (Some (7 ∷ 6 ∷ [])); pending = 0 }
shown_12 = refl

replies_13 : replies 1 (Apply 5 ∷ Begin ∷ Apply 4 ∷ Undo ∷ End ∷ Apply 3 ∷ Undo ∷ Undo ∷ Cancel ∷ Undo ∷ Redo ∷ Apply 2 ∷ []) (7 ∷ []) ≡ (0 ∷ 0 ∷ 0 ∷ 18 ∷ 0 ∷ 0 ∷ 0 ∷ 16 ∷ 19 ∷ 16 ∷ 0 ∷ 14 ∷ [])
replies_13 = refl

shown_13 : shown_after 1 (Apply 5 ∷ Begin ∷ Apply 4 ∷ Undo ∷ End ∷ Apply 3 ∷ Undo ∷ Undo ∷ Cancel ∷ Undo ∷ Redo ∷ Apply 2 ∷ []) (7 ∷ []) ≡ record { depth = 1; text = (7 ∷ 5 ∷ 4 ∷ 3 ∷ []); back = ((7 ∷ 5 ∷ 4 ∷ []) ∷ []); forward = ([]); begun = None; pending = 0 }
shown_13 = refl

replies_14 : replies 3 (Cancel ∷ Redo ∷ Apply 3 ∷ Apply 3 ∷ Redo ∷ Apply 3 ∷ Undo ∷ Apply 0 ∷ Undo ∷ Apply 4 ∷ []) (7 ∷ []) ≡ (19 ∷ 17 ∷ 0 ∷ 0 ∷ 17 ∷ 0 ∷ 0 ∷ 14 ∷ 0 ∷ 0 ∷ [])
replies_14 = refl

shown_14 : shown_after 3 (Cancel ∷ Redo ∷ Apply 3 ∷ Apply 3 ∷ Redo ∷ Apply 3 ∷ Undo ∷ Apply 0 ∷ Undo ∷ Apply 4 ∷ []) (7 ∷ []) ≡ record { depth = 3; text = (7 ∷ 3 ∷ 4 ∷ []); back = ((7 ∷ 3 ∷ []) ∷ (7 ∷ []) ∷ []); forward = ([]); begun = None; pending = 0 }
shown_14 = refl

replies_15 : replies 3 (Cancel ∷ Apply 1 ∷ Begin ∷ End ∷ []) ([]) ≡ (19 ∷ 0 ∷ 0 ∷ 0 ∷ [])
replies_15 = refl

shown_15 : shown_after 3 (Cancel ∷ Apply 1 ∷ Begin ∷ End ∷ []) ([]) ≡ record { depth = 3; text = (1 ∷ []); back = (([]) ∷ []); forward = ([]); begun = None; pending = 0 }
shown_15 = refl

replies_16 : replies 2 (Undo ∷ Apply 0 ∷ Apply 2 ∷ Apply 5 ∷ Apply 3 ∷ Redo ∷ Apply 0 ∷ Apply 1 ∷ Undo ∷ []) (7 ∷ []) ≡ (16 ∷ 14 ∷ 0 ∷ 0 ∷ 0 ∷ 17 ∷ 14 ∷ 14 ∷ 0 ∷ [])
replies_16 = refl

shown_16 : shown_after 2 (Undo ∷ Apply 0 ∷ Apply 2 ∷ Apply 5 ∷ Apply 3 ∷ Redo ∷ Apply 0 ∷ Apply 1 ∷ Undo ∷ []) (7 ∷ []) ≡ record { depth = 2; text = (7 ∷ 2 ∷ 5 ∷ []); back = ((7 ∷ 2 ∷ []) ∷ []); forward = ((7 ∷ 2 ∷ 5 ∷ 3 ∷ []) ∷ []); begun = None; pending = 0 }
shown_16 = refl

replies_17 : replies 3 (Apply 2 ∷ Apply 2 ∷ Cancel ∷ Begin ∷ Undo ∷ Begin ∷ Begin ∷ Apply 3 ∷ Apply 4 ∷ Apply 1 ∷ []) (7 ∷ []) ≡ (0 ∷ 0 ∷ 19 ∷ 0 ∷ 18 ∷ 18 ∷ 18 ∷ 0 ∷ 0 ∷ 14 ∷ [])
replies_17 = refl

shown_17 : shown_after 3 (Apply 2 ∷ Apply 2 ∷ Cancel ∷ Begin ∷ Undo ∷ Begin ∷ Begin ∷ Apply 3 ∷ Apply 4 ∷ Apply 1 ∷ []) (7 ∷ []) ≡ record { depth = 3; text = (7 ∷ 2 ∷ 2 ∷ 3 ∷ 4 ∷ []); back = ((7 ∷ 2 ∷ []) ∷ (7 ∷ []) ∷ []); forward = ([]); begun = (Some (7 ∷ 2 ∷ 2 ∷ [])); pending = 2 }
shown_17 = refl

replies_18 : replies 2 (Apply 2 ∷ Begin ∷ Apply 1 ∷ Apply 2 ∷ Redo ∷ []) (7 ∷ []) ≡ (0 ∷ 0 ∷ 14 ∷ 0 ∷ 18 ∷ [])
replies_18 = refl

shown_18 : shown_after 2 (Apply 2 ∷ Begin ∷ Apply 1 ∷ Apply 2 ∷ Redo ∷ []) (7 ∷ []) ≡ record { depth = 2; text = (7 ∷ 2 ∷ 2 ∷ []); back = ((7 ∷ []) ∷ []); forward = ([]); begun = (Some (7 ∷ 2 ∷ [])); pending = 1 }
shown_18 = refl

replies_19 : replies 9 (End ∷ Apply 6 ∷ Apply 2 ∷ Begin ∷ Apply 0 ∷ []) (7 ∷ []) ≡ (19 ∷ 0 ∷ 0 ∷ 0 ∷ 14 ∷ [])
replies_19 = refl

shown_19 : shown_after 9 (End ∷ Apply 6 ∷ Apply 2 ∷ Begin ∷ Apply 0 ∷ []) (7 ∷ []) ≡ record { depth = 9; text = (7 ∷ 6 ∷ 2 ∷ []); back = ((7 ∷ 6 ∷ []) ∷ (7 ∷ []) ∷ []); forward = ([]); begun = (Some (7 ∷ 6 ∷ 2 ∷ [])); pending = 0 }
shown_19 = refl

replies_20 : replies 1 (End ∷ Undo ∷ Redo ∷ End ∷ Redo ∷ []) (7 ∷ []) ≡ (19 ∷ 16 ∷ 17 ∷ 19 ∷ 17 ∷ [])
replies_20 = refl

shown_20 : shown_after 1 (End ∷ Undo ∷ Redo ∷ End ∷ Redo ∷ []) (7 ∷ []) ≡ record { depth = 1; text = (7 ∷ []); back = ([]); forward = ([]); begun = None; pending = 0 }
shown_20 = refl

replies_21 : replies 2 (Begin ∷ Apply 3 ∷ Apply 4 ∷ Begin ∷ Begin ∷ Undo ∷ Apply 6 ∷ Undo ∷ Begin ∷ Apply 1 ∷ Undo ∷ Apply 1 ∷ []) (7 ∷ []) ≡ (0 ∷ 0 ∷ 0 ∷ 18 ∷ 18 ∷ 18 ∷ 0 ∷ 18 ∷ 18 ∷ 14 ∷ 18 ∷ 14 ∷ [])
replies_21 = refl

shown_21 : shown_after 2 (Begin ∷ Apply 3 ∷ Apply 4 ∷ Begin ∷ Begin ∷ Undo ∷ Apply 6 ∷ Undo ∷ Begin ∷ Apply 1 ∷ Undo ∷ Apply 1 ∷ []) (7 ∷ []) ≡ record { depth = 2; text = (7 ∷ 3 ∷ 4 ∷ 6 ∷ []); back = ([]); forward = ([]); begun = (Some (7 ∷ [])); pending = 3 }
shown_21 = refl

replies_22 : replies 1 (Apply 1 ∷ Apply 3 ∷ End ∷ Cancel ∷ Redo ∷ Redo ∷ []) (7 ∷ []) ≡ (0 ∷ 0 ∷ 19 ∷ 19 ∷ 17 ∷ 17 ∷ [])
replies_22 = refl

shown_22 : shown_after 1 (Apply 1 ∷ Apply 3 ∷ End ∷ Cancel ∷ Redo ∷ Redo ∷ []) (7 ∷ []) ≡ record { depth = 1; text = (7 ∷ 1 ∷ 3 ∷ []); back = ((7 ∷ 1 ∷ []) ∷ []); forward = ([]); begun = None; pending = 0 }
shown_22 = refl

replies_23 : replies 2 (Begin ∷ Apply 4 ∷ Redo ∷ Apply 0 ∷ Begin ∷ []) (7 ∷ []) ≡ (0 ∷ 0 ∷ 18 ∷ 14 ∷ 18 ∷ [])
replies_23 = refl

shown_23 : shown_after 2 (Begin ∷ Apply 4 ∷ Redo ∷ Apply 0 ∷ Begin ∷ []) (7 ∷ []) ≡ record { depth = 2; text = (7 ∷ 4 ∷ []); back = ([]); forward = ([]); begun = (Some (7 ∷ [])); pending = 1 }
shown_23 = refl

replies_24 : replies 2 (Apply 4 ∷ Redo ∷ Redo ∷ Apply 3 ∷ Apply 1 ∷ Undo ∷ []) (7 ∷ []) ≡ (0 ∷ 17 ∷ 17 ∷ 0 ∷ 14 ∷ 0 ∷ [])
replies_24 = refl

shown_24 : shown_after 2 (Apply 4 ∷ Redo ∷ Redo ∷ Apply 3 ∷ Apply 1 ∷ Undo ∷ []) (7 ∷ []) ≡ record { depth = 2; text = (7 ∷ 4 ∷ []); back = ((7 ∷ []) ∷ []); forward = ((7 ∷ 4 ∷ 3 ∷ []) ∷ []); begun = None; pending = 0 }
shown_24 = refl

replies_25 : replies 3 ([]) ([]) ≡ ([])
replies_25 = refl

shown_25 : shown_after 3 ([]) ([]) ≡ record { depth = 3; text = ([]); back = ([]); forward = ([]); begun = None; pending = 0 }
shown_25 = refl

replies_26 : replies 3 (Apply 2 ∷ Apply 4 ∷ Redo ∷ Begin ∷ Undo ∷ Apply 6 ∷ Begin ∷ Apply 5 ∷ End ∷ Apply 6 ∷ Apply 1 ∷ []) (7 ∷ []) ≡ (0 ∷ 0 ∷ 17 ∷ 0 ∷ 18 ∷ 0 ∷ 18 ∷ 0 ∷ 0 ∷ 0 ∷ 14 ∷ [])
replies_26 = refl

shown_26 : shown_after 3 (Apply 2 ∷ Apply 4 ∷ Redo ∷ Begin ∷ Undo ∷ Apply 6 ∷ Begin ∷ Apply 5 ∷ End ∷ Apply 6 ∷ Apply 1 ∷ []) (7 ∷ []) ≡ record { depth = 3; text = (7 ∷ 2 ∷ 4 ∷ 6 ∷ 5 ∷ 6 ∷ []); back = ((7 ∷ 2 ∷ 4 ∷ 6 ∷ 5 ∷ []) ∷ (7 ∷ 2 ∷ 4 ∷ []) ∷ (7 ∷ 2 ∷ []) ∷ []); forward = ([]); begun = None; pending = 0 }
shown_26 = refl

replies_27 : replies 3 (End ∷ Apply 6 ∷ Cancel ∷ Apply 3 ∷ Cancel ∷ Apply 1 ∷ Undo ∷ Apply 1 ∷ Apply 4 ∷ Apply 1 ∷ Undo ∷ []) (7 ∷ []) ≡ (19 ∷ 0 ∷ 19 ∷ 0 ∷ 19 ∷ 14 ∷ 0 ∷ 14 ∷ 0 ∷ 14 ∷ 0 ∷ [])
replies_27 = refl

shown_27 : shown_after 3 (End ∷ Apply 6 ∷ Cancel ∷ Apply 3 ∷ Cancel ∷ Apply 1 ∷ Undo ∷ Apply 1 ∷ Apply 4 ∷ Apply 1 ∷ Undo ∷ []) (7 ∷ []) ≡ record { depth = 3; text = (7 ∷ 6 ∷ []); back = ((7 ∷ []) ∷ []); forward = ((7 ∷ 6 ∷ 4 ∷ []) ∷ []); begun = None; pending = 0 }
shown_27 = refl

replies_28 : replies 2 (Redo ∷ Apply 5 ∷ Apply 2 ∷ Apply 1 ∷ Apply 0 ∷ End ∷ End ∷ Redo ∷ Begin ∷ []) ([]) ≡ (17 ∷ 0 ∷ 0 ∷ 14 ∷ 14 ∷ 19 ∷ 19 ∷ 17 ∷ 0 ∷ [])
replies_28 = refl

shown_28 : shown_after 2 (Redo ∷ Apply 5 ∷ Apply 2 ∷ Apply 1 ∷ Apply 0 ∷ End ∷ End ∷ Redo ∷ Begin ∷ []) ([]) ≡ record { depth = 2; text = (5 ∷ 2 ∷ []); back = ((5 ∷ []) ∷ ([]) ∷ []); forward = ([]); begun = (Some (5 ∷ 2 ∷ [])); pending = 0 }
shown_28 = refl

replies_29 : replies 9 (Apply 1 ∷ Apply 2 ∷ End ∷ Apply 4 ∷ End ∷ Begin ∷ Redo ∷ Apply 5 ∷ Undo ∷ Apply 4 ∷ Apply 5 ∷ Redo ∷ Undo ∷ Apply 1 ∷ []) ([]) ≡ (0 ∷ 0 ∷ 19 ∷ 0 ∷ 19 ∷ 0 ∷ 18 ∷ 0 ∷ 18 ∷ 0 ∷ 0 ∷ 18 ∷ 18 ∷ 14 ∷ [])
replies_29 = refl

shown_29 : shown_after 9 (Apply 1 ∷ Apply 2 ∷ End ∷ Apply 4 ∷ End ∷ Begin ∷ Redo ∷ Apply 5 ∷ Undo ∷ Apply 4 ∷ Apply 5 ∷ Redo ∷ Undo ∷ Apply 1 ∷ []) ([]) ≡ record { depth = 9; text = (1 ∷ 2 ∷ 4 ∷ 5 ∷ 4 ∷ 5 ∷ []); back = ((1 ∷ 2 ∷ []) ∷ (1 ∷ []) ∷ ([]) ∷ []); forward = ([]); begun = (Some (1 ∷ 2 ∷ 4 ∷ [])); pending = 3 }
shown_29 = refl

replies_30 : replies 3 (Apply 3 ∷ []) ([]) ≡ (0 ∷ [])
replies_30 = refl

shown_30 : shown_after 3 (Apply 3 ∷ []) ([]) ≡ record { depth = 3; text = (3 ∷ []); back = (([]) ∷ []); forward = ([]); begun = None; pending = 0 }
shown_30 = refl

replies_31 : replies 9 (Apply 2 ∷ Apply 3 ∷ Apply 2 ∷ Apply 1 ∷ Apply 6 ∷ Apply 5 ∷ Begin ∷ Apply 6 ∷ []) ([]) ≡ (0 ∷ 0 ∷ 0 ∷ 14 ∷ 0 ∷ 0 ∷ 0 ∷ 0 ∷ [])
replies_31 = refl

shown_31 : shown_after 9 (Apply 2 ∷ Apply 3 ∷ Apply 2 ∷ Apply 1 ∷ Apply 6 ∷ Apply 5 ∷ Begin ∷ Apply 6 ∷ []) ([]) ≡ record { depth = 9; text = (2 ∷ 3 ∷ 2 ∷ 6 ∷ 5 ∷ 6 ∷ []); back = ((2 ∷ 3 ∷ 2 ∷ 6 ∷ []) ∷ (2 ∷ 3 ∷ 2 ∷ []) ∷ (2 ∷ 3 ∷ []) ∷ (2 ∷ []) ∷ ([]) ∷ []); forward = ([]); begun = (Some (2 ∷ 3 ∷ 2 ∷ 6 ∷ 5 ∷ [])); pending = 1 }
shown_31 = refl

replies_32 : replies 2 (Redo ∷ Apply 2 ∷ []) (7 ∷ []) ≡ (17 ∷ 0 ∷ [])
replies_32 = refl

shown_32 : shown_after 2 (Redo ∷ Apply 2 ∷ []) (7 ∷ []) ≡ record { depth = 2; text = (7 ∷ 2 ∷ []); back = ((7 ∷ []) ∷ []); forward = ([]); begun = None; pending = 0 }
shown_32 = refl

replies_33 : replies 1 (Redo ∷ Apply 1 ∷ Apply 2 ∷ Cancel ∷ Apply 0 ∷ Apply 5 ∷ Apply 1 ∷ Undo ∷ Redo ∷ []) ([]) ≡ (17 ∷ 0 ∷ 0 ∷ 19 ∷ 14 ∷ 0 ∷ 14 ∷ 0 ∷ 0 ∷ [])
replies_33 = refl

shown_33 : shown_after 1 (Redo ∷ Apply 1 ∷ Apply 2 ∷ Cancel ∷ Apply 0 ∷ Apply 5 ∷ Apply 1 ∷ Undo ∷ Redo ∷ []) ([]) ≡ record { depth = 1; text = (1 ∷ 2 ∷ 5 ∷ []); back = ((1 ∷ 2 ∷ []) ∷ []); forward = ([]); begun = None; pending = 0 }
shown_33 = refl

replies_34 : replies 3 (Apply 1 ∷ Apply 5 ∷ Undo ∷ Apply 5 ∷ Redo ∷ Apply 0 ∷ Apply 5 ∷ Apply 6 ∷ Begin ∷ Begin ∷ Begin ∷ Undo ∷ Undo ∷ []) (7 ∷ []) ≡ (0 ∷ 0 ∷ 0 ∷ 0 ∷ 17 ∷ 14 ∷ 0 ∷ 0 ∷ 0 ∷ 18 ∷ 18 ∷ 18 ∷ 18 ∷ [])
replies_34 = refl

shown_34 : shown_after 3 (Apply 1 ∷ Apply 5 ∷ Undo ∷ Apply 5 ∷ Redo ∷ Apply 0 ∷ Apply 5 ∷ Apply 6 ∷ Begin ∷ Begin ∷ Begin ∷ Undo ∷ Undo ∷ []) (7 ∷ []) ≡ record { depth = 3; text = (7 ∷ 1 ∷ 5 ∷ 5 ∷ 6 ∷ []); back = ((7 ∷ 1 ∷ 5 ∷ 5 ∷ []) ∷ (7 ∷ 1 ∷ 5 ∷ []) ∷ (7 ∷ 1 ∷ []) ∷ []); forward = ([]); begun = (Some (7 ∷ 1 ∷ 5 ∷ 5 ∷ 6 ∷ [])); pending = 0 }
shown_34 = refl

replies_35 : replies 2 (Undo ∷ Undo ∷ Apply 6 ∷ Begin ∷ Apply 5 ∷ Redo ∷ Apply 6 ∷ Apply 1 ∷ Apply 2 ∷ Begin ∷ Apply 6 ∷ []) ([]) ≡ (16 ∷ 16 ∷ 0 ∷ 0 ∷ 0 ∷ 18 ∷ 0 ∷ 14 ∷ 14 ∷ 18 ∷ 0 ∷ [])
replies_35 = refl

shown_35 : shown_after 2 (Undo ∷ Undo ∷ Apply 6 ∷ Begin ∷ Apply 5 ∷ Redo ∷ Apply 6 ∷ Apply 1 ∷ Apply 2 ∷ Begin ∷ Apply 6 ∷ []) ([]) ≡ record { depth = 2; text = (6 ∷ 5 ∷ 6 ∷ 6 ∷ []); back = (([]) ∷ []); forward = ([]); begun = (Some (6 ∷ [])); pending = 3 }
shown_35 = refl

replies_36 : replies 2 (Undo ∷ Apply 4 ∷ []) ([]) ≡ (16 ∷ 0 ∷ [])
replies_36 = refl

shown_36 : shown_after 2 (Undo ∷ Apply 4 ∷ []) ([]) ≡ record { depth = 2; text = (4 ∷ []); back = (([]) ∷ []); forward = ([]); begun = None; pending = 0 }
shown_36 = refl

replies_37 : replies 2 (Redo ∷ End ∷ Begin ∷ End ∷ Begin ∷ Begin ∷ Undo ∷ Apply 2 ∷ []) ([]) ≡ (17 ∷ 19 ∷ 0 ∷ 0 ∷ 0 ∷ 18 ∷ 18 ∷ 0 ∷ [])
replies_37 = refl

shown_37 : shown_after 2 (Redo ∷ End ∷ Begin ∷ End ∷ Begin ∷ Begin ∷ Undo ∷ Apply 2 ∷ []) ([]) ≡ record { depth = 2; text = (2 ∷ []); back = ([]); forward = ([]); begun = (Some ([])); pending = 1 }
shown_37 = refl

replies_38 : replies 2 (Apply 4 ∷ Apply 1 ∷ Cancel ∷ Apply 1 ∷ Cancel ∷ []) (7 ∷ []) ≡ (0 ∷ 14 ∷ 19 ∷ 14 ∷ 19 ∷ [])
replies_38 = refl

shown_38 : shown_after 2 (Apply 4 ∷ Apply 1 ∷ Cancel ∷ Apply 1 ∷ Cancel ∷ []) (7 ∷ []) ≡ record { depth = 2; text = (7 ∷ 4 ∷ []); back = ((7 ∷ []) ∷ []); forward = ([]); begun = None; pending = 0 }
shown_38 = refl

replies_39 : replies 3 (Begin ∷ End ∷ Apply 5 ∷ Apply 4 ∷ Cancel ∷ Redo ∷ Apply 0 ∷ Redo ∷ Apply 5 ∷ Begin ∷ Apply 1 ∷ End ∷ []) (7 ∷ []) ≡ (0 ∷ 0 ∷ 0 ∷ 0 ∷ 19 ∷ 17 ∷ 14 ∷ 17 ∷ 0 ∷ 0 ∷ 14 ∷ 0 ∷ [])
replies_39 = refl

shown_39 : shown_after 3 (Begin ∷ End ∷ Apply 5 ∷ Apply 4 ∷ Cancel ∷ Redo ∷ Apply 0 ∷ Redo ∷ Apply 5 ∷ Begin ∷ Apply 1 ∷ End ∷ []) (7 ∷ []) ≡ record { depth = 3; text = (7 ∷ 5 ∷ 4 ∷ 5 ∷ []); back = ((7 ∷ 5 ∷ 4 ∷ []) ∷ (7 ∷ 5 ∷ []) ∷ (7 ∷ []) ∷ []); forward = ([]); begun = None; pending = 0 }
shown_39 = refl

replies_40 : replies 9 (Undo ∷ Begin ∷ Redo ∷ Apply 1 ∷ Undo ∷ Redo ∷ Apply 4 ∷ Begin ∷ Undo ∷ Apply 4 ∷ Apply 1 ∷ Apply 6 ∷ Redo ∷ Apply 6 ∷ []) ([]) ≡ (16 ∷ 0 ∷ 18 ∷ 0 ∷ 18 ∷ 18 ∷ 0 ∷ 18 ∷ 18 ∷ 0 ∷ 14 ∷ 0 ∷ 18 ∷ 0 ∷ [])
replies_40 = refl

shown_40 : shown_after 9 (Undo ∷ Begin ∷ Redo ∷ Apply 1 ∷ Undo ∷ Redo ∷ Apply 4 ∷ Begin ∷ Undo ∷ Apply 4 ∷ Apply 1 ∷ Apply 6 ∷ Redo ∷ Apply 6 ∷ []) ([]) ≡ record { depth = 9; text = (1 ∷ 4 ∷ 4 ∷ 6 ∷ 6 ∷ []); back = ([]); forward = ([]); begun = (Some ([])); pending = 5 }
shown_40 = refl

replies_41 : replies 3 (Redo ∷ Apply 5 ∷ Undo ∷ []) (7 ∷ []) ≡ (17 ∷ 0 ∷ 0 ∷ [])
replies_41 = refl

shown_41 : shown_after 3 (Redo ∷ Apply 5 ∷ Undo ∷ []) (7 ∷ []) ≡ record { depth = 3; text = (7 ∷ []); back = ([]); forward = ((7 ∷ 5 ∷ []) ∷ []); begun = None; pending = 0 }
shown_41 = refl

replies_42 : replies 2 ([]) ([]) ≡ ([])
replies_42 = refl

shown_42 : shown_after 2 ([]) ([]) ≡ record { depth = 2; text = ([]); back = ([]); forward = ([]); begun = None; pending = 0 }
shown_42 = refl

replies_43 : replies 2 (Redo ∷ Redo ∷ Undo ∷ Apply 5 ∷ End ∷ Undo ∷ []) ([]) ≡ (17 ∷ 17 ∷ 16 ∷ 0 ∷ 19 ∷ 0 ∷ [])
replies_43 = refl

shown_43 : shown_after 2 (Redo ∷ Redo ∷ Undo ∷ Apply 5 ∷ End ∷ Undo ∷ []) ([]) ≡ record { depth = 2; text = ([]); back = ([]); forward = ((5 ∷ []) ∷ []); begun = None; pending = 0 }
shown_43 = refl

replies_44 : replies 1 (Apply 4 ∷ Undo ∷ Apply 6 ∷ []) (7 ∷ []) ≡ (0 ∷ 0 ∷ 0 ∷ [])
replies_44 = refl

shown_44 : shown_after 1 (Apply 4 ∷ Undo ∷ Apply 6 ∷ []) (7 ∷ []) ≡ record { depth = 1; text = (7 ∷ 6 ∷ []); back = ((7 ∷ []) ∷ []); forward = ([]); begun = None; pending = 0 }
shown_44 = refl

replies_45 : replies 2 (Apply 3 ∷ Apply 5 ∷ Redo ∷ Apply 2 ∷ Undo ∷ Redo ∷ Begin ∷ Apply 1 ∷ Apply 0 ∷ Begin ∷ Apply 0 ∷ End ∷ Apply 6 ∷ []) (7 ∷ []) ≡ (0 ∷ 0 ∷ 17 ∷ 14 ∷ 0 ∷ 0 ∷ 0 ∷ 14 ∷ 14 ∷ 18 ∷ 14 ∷ 0 ∷ 0 ∷ [])
replies_45 = refl

shown_45 : shown_after 2 (Apply 3 ∷ Apply 5 ∷ Redo ∷ Apply 2 ∷ Undo ∷ Redo ∷ Begin ∷ Apply 1 ∷ Apply 0 ∷ Begin ∷ Apply 0 ∷ End ∷ Apply 6 ∷ []) (7 ∷ []) ≡ record { depth = 2; text = (7 ∷ 3 ∷ 5 ∷ 6 ∷ []); back = ((7 ∷ 3 ∷ 5 ∷ []) ∷ (7 ∷ 3 ∷ []) ∷ []); forward = ([]); begun = None; pending = 0 }
shown_45 = refl

replies_46 : replies 2 (Begin ∷ Apply 5 ∷ Cancel ∷ Undo ∷ Apply 4 ∷ []) (7 ∷ []) ≡ (0 ∷ 0 ∷ 0 ∷ 16 ∷ 0 ∷ [])
replies_46 = refl

shown_46 : shown_after 2 (Begin ∷ Apply 5 ∷ Cancel ∷ Undo ∷ Apply 4 ∷ []) (7 ∷ []) ≡ record { depth = 2; text = (7 ∷ 4 ∷ []); back = ((7 ∷ []) ∷ []); forward = ([]); begun = None; pending = 0 }
shown_46 = refl

replies_47 : replies 2 (Begin ∷ Apply 1 ∷ End ∷ Apply 1 ∷ End ∷ Redo ∷ Redo ∷ Redo ∷ Undo ∷ Apply 6 ∷ Undo ∷ Undo ∷ Apply 3 ∷ Begin ∷ []) (7 ∷ []) ≡ (0 ∷ 0 ∷ 0 ∷ 14 ∷ 19 ∷ 17 ∷ 17 ∷ 17 ∷ 0 ∷ 0 ∷ 0 ∷ 16 ∷ 0 ∷ 0 ∷ [])
replies_47 = refl

shown_47 : shown_after 2 (Begin ∷ Apply 1 ∷ End ∷ Apply 1 ∷ End ∷ Redo ∷ Redo ∷ Redo ∷ Undo ∷ Apply 6 ∷ Undo ∷ Undo ∷ Apply 3 ∷ Begin ∷ []) (7 ∷ []) ≡ record { depth = 2; text = (7 ∷ 3 ∷ []); back = ((7 ∷ []) ∷ []); forward = ([]); begun = (Some (7 ∷ 3 ∷ [])); pending = 0 }
shown_47 = refl

replies_48 : replies 2 ([]) ([]) ≡ ([])
replies_48 = refl

shown_48 : shown_after 2 ([]) ([]) ≡ record { depth = 2; text = ([]); back = ([]); forward = ([]); begun = None; pending = 0 }
shown_48 = refl

replies_49 : replies 2 (Begin ∷ End ∷ End ∷ Undo ∷ End ∷ Cancel ∷ Undo ∷ Redo ∷ Apply 1 ∷ End ∷ Apply 5 ∷ End ∷ []) ([]) ≡ (0 ∷ 0 ∷ 19 ∷ 16 ∷ 19 ∷ 19 ∷ 16 ∷ 17 ∷ 0 ∷ 19 ∷ 0 ∷ 19 ∷ [])
replies_49 = refl

shown_49 : shown_after 2 (Begin ∷ End ∷ End ∷ Undo ∷ End ∷ Cancel ∷ Undo ∷ Redo ∷ Apply 1 ∷ End ∷ Apply 5 ∷ End ∷ []) ([]) ≡ record { depth = 2; text = (1 ∷ 5 ∷ []); back = ((1 ∷ []) ∷ ([]) ∷ []); forward = ([]); begun = None; pending = 0 }
shown_49 = refl

replies_50 : replies 1 (Apply 5 ∷ Undo ∷ Apply 2 ∷ Apply 1 ∷ Cancel ∷ Cancel ∷ Apply 5 ∷ []) ([]) ≡ (0 ∷ 0 ∷ 0 ∷ 0 ∷ 19 ∷ 19 ∷ 0 ∷ [])
replies_50 = refl

shown_50 : shown_after 1 (Apply 5 ∷ Undo ∷ Apply 2 ∷ Apply 1 ∷ Cancel ∷ Cancel ∷ Apply 5 ∷ []) ([]) ≡ record { depth = 1; text = (2 ∷ 1 ∷ 5 ∷ []); back = ((2 ∷ 1 ∷ []) ∷ []); forward = ([]); begun = None; pending = 0 }
shown_50 = refl

replies_51 : replies 3 ([]) (7 ∷ []) ≡ ([])
replies_51 = refl

shown_51 : shown_after 3 ([]) (7 ∷ []) ≡ record { depth = 3; text = (7 ∷ []); back = ([]); forward = ([]); begun = None; pending = 0 }
shown_51 = refl

replies_52 : replies 3 (Apply 3 ∷ Redo ∷ Apply 2 ∷ Undo ∷ Begin ∷ End ∷ Begin ∷ Apply 4 ∷ []) ([]) ≡ (0 ∷ 17 ∷ 0 ∷ 0 ∷ 0 ∷ 0 ∷ 0 ∷ 0 ∷ [])
replies_52 = refl

shown_52 : shown_after 3 (Apply 3 ∷ Redo ∷ Apply 2 ∷ Undo ∷ Begin ∷ End ∷ Begin ∷ Apply 4 ∷ []) ([]) ≡ record { depth = 3; text = (3 ∷ 4 ∷ []); back = (([]) ∷ []); forward = ([]); begun = (Some (3 ∷ [])); pending = 1 }
shown_52 = refl

replies_53 : replies 3 (Redo ∷ Redo ∷ Apply 4 ∷ End ∷ Apply 6 ∷ Redo ∷ Apply 4 ∷ Apply 5 ∷ Redo ∷ Undo ∷ Redo ∷ Undo ∷ Begin ∷ Apply 5 ∷ []) ([]) ≡ (17 ∷ 17 ∷ 0 ∷ 19 ∷ 0 ∷ 17 ∷ 0 ∷ 0 ∷ 17 ∷ 0 ∷ 0 ∷ 0 ∷ 0 ∷ 0 ∷ [])
replies_53 = refl

shown_53 : shown_after 3 (Redo ∷ Redo ∷ Apply 4 ∷ End ∷ Apply 6 ∷ Redo ∷ Apply 4 ∷ Apply 5 ∷ Redo ∷ Undo ∷ Redo ∷ Undo ∷ Begin ∷ Apply 5 ∷ []) ([]) ≡ record { depth = 3; text = (4 ∷ 6 ∷ 4 ∷ 5 ∷ []); back = ((4 ∷ 6 ∷ []) ∷ (4 ∷ []) ∷ []); forward = ([]); begun = (Some (4 ∷ 6 ∷ 4 ∷ [])); pending = 1 }
shown_53 = refl

replies_54 : replies 3 (Redo ∷ Apply 5 ∷ Cancel ∷ End ∷ Undo ∷ Begin ∷ Undo ∷ Apply 1 ∷ Begin ∷ Apply 4 ∷ []) (7 ∷ []) ≡ (17 ∷ 0 ∷ 19 ∷ 19 ∷ 0 ∷ 0 ∷ 18 ∷ 0 ∷ 18 ∷ 0 ∷ [])
replies_54 = refl

shown_54 : shown_after 3 (Redo ∷ Apply 5 ∷ Cancel ∷ End ∷ Undo ∷ Begin ∷ Undo ∷ Apply 1 ∷ Begin ∷ Apply 4 ∷ []) (7 ∷ []) ≡ record { depth = 3; text = (7 ∷ 1 ∷ 4 ∷ []); back = ([]); forward = ([]); begun = (Some (7 ∷ [])); pending = 2 }
shown_54 = refl

replies_55 : replies 2 (Undo ∷ Apply 0 ∷ Apply 2 ∷ []) ([]) ≡ (16 ∷ 0 ∷ 0 ∷ [])
replies_55 = refl

shown_55 : shown_after 2 (Undo ∷ Apply 0 ∷ Apply 2 ∷ []) ([]) ≡ record { depth = 2; text = (0 ∷ 2 ∷ []); back = ((0 ∷ []) ∷ ([]) ∷ []); forward = ([]); begun = None; pending = 0 }
shown_55 = refl

replies_56 : replies 1 (Redo ∷ Apply 0 ∷ Undo ∷ Apply 5 ∷ Apply 3 ∷ Apply 0 ∷ Apply 6 ∷ Apply 4 ∷ Apply 0 ∷ Undo ∷ Redo ∷ []) ([]) ≡ (17 ∷ 0 ∷ 0 ∷ 0 ∷ 0 ∷ 14 ∷ 0 ∷ 0 ∷ 14 ∷ 0 ∷ 0 ∷ [])
replies_56 = refl

shown_56 : shown_after 1 (Redo ∷ Apply 0 ∷ Undo ∷ Apply 5 ∷ Apply 3 ∷ Apply 0 ∷ Apply 6 ∷ Apply 4 ∷ Apply 0 ∷ Undo ∷ Redo ∷ []) ([]) ≡ record { depth = 1; text = (5 ∷ 3 ∷ 6 ∷ 4 ∷ []); back = ((5 ∷ 3 ∷ 6 ∷ []) ∷ []); forward = ([]); begun = None; pending = 0 }
shown_56 = refl

replies_57 : replies 1 (Apply 2 ∷ Redo ∷ Apply 2 ∷ Apply 4 ∷ Undo ∷ Apply 2 ∷ Begin ∷ Undo ∷ Undo ∷ Redo ∷ Apply 1 ∷ Apply 5 ∷ Apply 6 ∷ []) ([]) ≡ (0 ∷ 17 ∷ 0 ∷ 0 ∷ 0 ∷ 0 ∷ 0 ∷ 18 ∷ 18 ∷ 18 ∷ 14 ∷ 0 ∷ 0 ∷ [])
replies_57 = refl

shown_57 : shown_after 1 (Apply 2 ∷ Redo ∷ Apply 2 ∷ Apply 4 ∷ Undo ∷ Apply 2 ∷ Begin ∷ Undo ∷ Undo ∷ Redo ∷ Apply 1 ∷ Apply 5 ∷ Apply 6 ∷ []) ([]) ≡ record { depth = 1; text = (2 ∷ 2 ∷ 2 ∷ 5 ∷ 6 ∷ []); back = ((2 ∷ 2 ∷ []) ∷ []); forward = ([]); begun = (Some (2 ∷ 2 ∷ 2 ∷ [])); pending = 2 }
shown_57 = refl

replies_58 : replies 9 (Begin ∷ Apply 1 ∷ Apply 0 ∷ Undo ∷ Apply 3 ∷ Apply 0 ∷ Undo ∷ Apply 5 ∷ Apply 1 ∷ Apply 4 ∷ []) ([]) ≡ (0 ∷ 0 ∷ 14 ∷ 18 ∷ 0 ∷ 14 ∷ 18 ∷ 0 ∷ 14 ∷ 0 ∷ [])
replies_58 = refl

shown_58 : shown_after 9 (Begin ∷ Apply 1 ∷ Apply 0 ∷ Undo ∷ Apply 3 ∷ Apply 0 ∷ Undo ∷ Apply 5 ∷ Apply 1 ∷ Apply 4 ∷ []) ([]) ≡ record { depth = 9; text = (1 ∷ 3 ∷ 5 ∷ 4 ∷ []); back = ([]); forward = ([]); begun = (Some ([])); pending = 4 }
shown_58 = refl

replies_59 : replies 9 (Apply 6 ∷ Begin ∷ Cancel ∷ Apply 6 ∷ Apply 6 ∷ End ∷ End ∷ []) ([]) ≡ (0 ∷ 0 ∷ 0 ∷ 0 ∷ 0 ∷ 19 ∷ 19 ∷ [])
replies_59 = refl

shown_59 : shown_after 9 (Apply 6 ∷ Begin ∷ Cancel ∷ Apply 6 ∷ Apply 6 ∷ End ∷ End ∷ []) ([]) ≡ record { depth = 9; text = (6 ∷ 6 ∷ 6 ∷ []); back = ((6 ∷ 6 ∷ []) ∷ (6 ∷ []) ∷ ([]) ∷ []); forward = ([]); begun = None; pending = 0 }
shown_59 = refl
