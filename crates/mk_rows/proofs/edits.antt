-- The definitions of edits, computed on rows with answers from outside
mod Outcomes
mod WorkedEdits
mod RandomEdits
mod RandomRecipes
mod CornerEdits
mod WordEdits
mod EveryValue
mod FurtherEdits
