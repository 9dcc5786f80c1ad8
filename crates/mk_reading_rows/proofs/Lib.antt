-- Lines, cells, units and words
mod WorkedLines
mod StoredCells
mod RandomLines
-- Classes, contexts and arguments
mod ClassNames
mod WorkedClasses
mod RandomArguments
-- Documents and their readings
mod WorkedRecipes
mod WorkedChanges
mod WorkedReadings
mod RandomReadings
