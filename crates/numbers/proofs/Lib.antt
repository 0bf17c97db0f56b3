mod Joins
